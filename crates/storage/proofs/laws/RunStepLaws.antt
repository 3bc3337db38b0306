-- What a stretch of the walk is of the whole: the entries of the window from a place on are those of the next stretch, and then those
-- of the window from its end on. Assumes nothing.
use Rattle.basics.specs.Words.{ℕ, ◌+◌, ◌-◌, ◌<◌, ◌≤◌, ◌≡◌, sym, ◌∙◌, ap, Bool, true, false, List, [], ◌++◌, map, length, get_or, take, drop, length-map}
use Rattle.basics.specs.Words.{get_or-map, take-append-drop, slice, length-slice, length-take-le, get_or-drop, get_or-take, drop-append-le, arith}
use Rattle.cells.specs.declared.Cell.{Cell}
use Rattle.cells.proofs.laws.Numbers.{Fits}
use Rattle.cells.specs.Meaning.Key.{key_of}
use Rattle.cells.specs.Inner.Key.{column_of, line_of}
use Rattle.cells.proofs.laws.KeyLaws.{key_column, key_row}
use Rattle.storage.specs.Meaning.Keyed.{All, filter}
use Rattle.storage.specs.Meaning.Entries.{row_key}
use Rattle.storage.specs.Inner.Window.{in_window}
use Rattle.storage.specs.Inner.Run.{NextRun}
use Rattle.storage.specs.declared.Run.{Run}
use Rattle.storage.proofs.laws.FilterLaws.{all_of, filter-append, filter-whole, filter_none}
use Rattle.storage.specs.Inner.Window.{window_of}

module _ {A : Type 0} (d : A) (l : List A) where
  -- a fact of the elements of a stretch, by their places
  all_slice : (P : A → Type 0) (a b : ℕ) → b ≤ length l → ((j : ℕ) → a ≤ j → j < b → P (get_or l j d)) → All P (slice a b l)
  all_slice P a b h f =
      all_of P d (slice a b l)
      (λ i q.
      let n : length (slice a b l) ≡ b - a = length-slice a b l h in
      rw (get_or-drop a (take b l) i d, get_or-take b l (a + i) d (omega arith)) (f (a + i) (omega arith) (omega arith)))

  cut_at : (a b : ℕ) → a ≤ b → b ≤ length l → drop a l ≡ slice a b l ++ drop b l
  cut_at a b h m = ap (drop a) (sym (take-append-drop b l)) ∙ drop-append-le a (take b l) (drop b l) (rw (length-take-le b l m) h)

  pub filter_stretch : (test : A → Bool) (i from to : ℕ) → i ≤ from → from ≤ to → to ≤ length l
      → ((j : ℕ) → i ≤ j → j < from → test (get_or l j d) ≡ false) → ((j : ℕ) → from ≤ j → j < to → test (get_or l j d) ≡ true)
      → filter test (drop i l) ≡ slice from to l ++ filter test (drop to l)
  filter_stretch test i from to a b m f g =
      ap (filter test) (cut_at i from a (omega arith) ∙ ap (λ r. slice i from l ++ r) (cut_at from to b m))
      ∙ filter-append test (slice i from l) (slice from to l ++ drop to l)
      ∙ rw (
        filter_none test (slice i from l) (all_slice (λ x. test x ≡ false) i from (omega arith) f),
        filter-append test (slice from to l) (drop to l),
        filter-whole test (slice from to l) (all_slice (λ x. test x ≡ true) from to m g),
      )

-- the entries of a pool, of which f is the row
module _ {A : Type 0} (f : A → List ℕ) (d : A) (l : List A) (pool : List (List ℕ)) (used : ℕ) (room : used ≤ length pool) (fd : f d ≡ []) (col : map f l ≡ take used pool) where
  size : length l ≡ used
  size = sym (length-map l f) ∙ ap length col ∙ length-take-le used pool room

  row_at : (j : ℕ) → j < used → f (get_or l j d) ≡ get_or pool j []
  row_at j h = sym (get_or-map f l j d) ∙ rw (fd, col) (get_or-take used pool j [] h)

  pub next_stretch : (i x0 y0 x1 y1 : ℕ) (r : Run) → NextRun pool used i x0 y0 x1 y1 r
      → filter (λ x. in_window x0 y0 x1 y1 (row_key (f x))) (drop i l) ≡ slice r.from r.to l ++ filter (λ x. in_window x0 y0 x1 y1 (row_key (f x))) (drop r.to l)
  next_stretch i x0 y0 x1 y1 r n =
      filter_stretch d l (λ x. in_window x0 y0 x1 y1 (row_key (f x))) i r.from r.to n.onward n.ends (omega (arith, n.within, size))
      (λ j p q. rw (row_at j (omega (arith, q, n.ends, n.within))) (n.passed j p q))
      (λ j p q. rw (row_at j (omega (arith, q, n.within))) (n.taken j p q))

-- the window from the key of one cell to that of another is the window of their range
pub key_windows : (a b : Cell) → Fits a → Fits b → (k : ℕ) → in_window (column_of (key_of a)) (line_of (key_of a)) (column_of (key_of b)) (line_of (key_of b)) k ≡ window_of a b k
key_windows a b fa fb k = rw (key_column a fa, key_row a fa, key_column b fb, key_row b fb)
