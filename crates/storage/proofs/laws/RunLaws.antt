-- Keys in and out of a window, and how the walk of a sorted pool skips those that are out. Assumes nothing.
use Rattle.basics.specs.Words.{ℕ, ◌+◌, ◌*◌, ◌<◌, ◌≤◌, ◌≡◌, true, false, List, [], ⊎_elim, length, take, arith}
use Rattle.basics.proofs.laws.Says.{not_said, says_and, leb_says, d_lt}
use Rattle.cells.specs.Inner.Key.{column_of, line_of}
use Rattle.storage.specs.Inner.Keyed.{Sorted}
use Rattle.storage.specs.Meaning.Keyed.{below}
use Rattle.storage.specs.Meaning.Entries.{row_key}
use Rattle.storage.specs.Meaning.Packed.{first}
use Rattle.storage.proofs.laws.FilterLaws.{by_order}
use Rattle.storage.proofs.laws.PackedLaws.{sorted-ordered}
use Rattle.storage.proofs.laws.CutLaws.{high_of, most_of}
use Rattle.basics.specs.Meaning.Says.{Says}
use Rattle.storage.specs.Inner.Window.{in_window}
use Rattle.storage.specs.Inner.Run.{NextKey, NextRun}
use Rattle.storage.specs.declared.Run.{Run}

module _ (x0 y0 x1 y1 k : ℕ) where
  -- the four comparisons of the window's test
  abbrev Inside : Type 0
  Inside = ((x0 ≤ column_of k) × (column_of k ≤ x1)) × ((y0 ≤ line_of k) × (line_of k ≤ y1))

  window_says : Says (in_window x0 y0 x1 y1 k) Inside
  unfolding in_window
  window_says = says_and _ _ (says_and _ _ (leb_says x0 (column_of k)) (leb_says (column_of k) x1)) (says_and _ _ (leb_says y0 (line_of k)) (leb_says (line_of k) y1))

  out : (Inside → ⊥) → in_window x0 y0 x1 y1 k ≡ false
  out n = not_said window_says n

  pub left_out : column_of k < x0 → in_window x0 y0 x1 y1 k ≡ false
  left_out h = out (λ f. omega arith)

  pub right-out : x1 < column_of k → in_window x0 y0 x1 y1 k ≡ false
  right-out h = out (λ f. omega arith)

  pub under-out : line_of k < y0 → in_window x0 y0 x1 y1 k ≡ false
  under-out h = out (λ f. omega arith)

  pub over_out : y1 < line_of k → in_window x0 y0 x1 y1 k ≡ false
  over_out h = out (λ f. omega arith)

  pub inside : x0 ≤ column_of k → column_of k ≤ x1 → y0 ≤ line_of k → line_of k ≤ y1 → in_window x0 y0 x1 y1 k ≡ true
  inside a b c d = window_says.no ((a, b), (c, d))

module _ (x0 y0 x1 y1 key : ℕ) where
  -- ---- the next key, case by case
  pub next-below : (low : ℕ) → low ≡ y0 * 4294967296 + x0 → line_of key < y0 → x0 < 4294967296 → NextKey x0 y0 x1 y1 key low
  next-below low e h b =
      record {
        onward = omega arith;
        skipped = λ k p q. by_order (line_of k) y0 (λ w. under-out x0 y0 x1 y1 k w) (λ w. left_out x0 y0 x1 y1 k (omega arith)) (λ w. absurd (omega arith));
        here = λ q. absurd (omega arith);
      }

  pub next-left : column_of key < x0 → x0 < 4294967296 → NextKey x0 y0 x1 y1 key (line_of key * 4294967296 + x0)
  next-left h b = record { onward = omega arith; skipped = λ k p q. left_out x0 y0 x1 y1 k (omega arith); here = λ q. absurd (omega arith) }

  pub next-right : x1 < column_of key → x0 < 4294967296 → NextKey x0 y0 x1 y1 key ((line_of key + 1) * 4294967296 + x0)
  next-right h b =
      record {
        onward = omega arith;
        skipped = λ k p q. by_order (line_of k) (line_of key + 1) (λ w. right-out x0 y0 x1 y1 k (omega arith)) (λ w. left_out x0 y0 x1 y1 k (omega arith)) (λ w. absurd (omega arith));
        here = λ q. absurd (omega arith);
      }

  pub next_here : in_window x0 y0 x1 y1 key ≡ true → NextKey x0 y0 x1 y1 key key
  next_here h = record { onward = omega arith; skipped = λ k p q. absurd (omega arith); here = λ e. h }

  -- past the window's last key there is none
  pub past-out : x1 < 4294967296 → y1 * 4294967296 + x1 < key → in_window x0 y0 x1 y1 key ≡ false
  past-out b h =
      by_order (line_of key) y1
      (λ w. absurd (omega arith))
      (λ w. right-out x0 y0 x1 y1 key (omega arith))
      (λ w. over_out x0 y0 x1 y1 key w)

  -- from a key of the window on, up to the last column of its row, all are in it
  pub same_line : (k : ℕ) → x1 < 4294967296 → in_window x0 y0 x1 y1 key ≡ true → key ≤ k → k ≤ line_of key * 4294967296 + x1 → in_window x0 y0 x1 y1 k ≡ true
  same_line k b h p q = let f = (window_says x0 y0 x1 y1 key).yes h in inside x0 y0 x1 y1 k (omega arith) (omega arith) (omega arith) (omega arith)

-- ---- the same of the places of a sorted pool
module _ (pool : List (List ℕ)) (used : ℕ) (room : used ≤ length pool) (s : Sorted row_key (take used pool)) (x0 y0 x1 y1 : ℕ) where
  -- up to the place of the next key there is nothing
  pub skip : (p t : ℕ) → NextKey x0 y0 x1 y1 (first pool p) t → (j : ℕ) → p ≤ j → j < length (below row_key t (take used pool)) → in_window x0 y0 x1 y1 (first pool j) ≡ false
  skip p t n j a b =
      let h : j < used = omega (arith, b, most_of row_key t [] pool used room s) in
      let late : t ≤ first pool j → ⊥ = λ w. omega (arith, b, high_of row_key t [] pool used room s j h w) in
      by_order (first pool j) t (λ w. n.skipped (first pool j) (sorted-ordered used pool room s p j h a) w) (λ w. absurd (late (omega arith))) (λ w. absurd (late (omega arith)))

  -- behind a key that is past the window there is nothing
  pub behind : (p : ℕ) → x1 < 4294967296 → y1 * 4294967296 + x1 < first pool p → (j : ℕ) → p ≤ j → j < used → in_window x0 y0 x1 y1 (first pool j) ≡ false
  behind p b h j a m = past-out x0 y0 x1 y1 (first pool j) b (omega (arith, h, sorted-ordered used pool room s p j m a))

  -- the entries of one row of cells
  pub along : (from j : ℕ) → x1 < 4294967296 → in_window x0 y0 x1 y1 (first pool from) ≡ true → from ≤ j → j < used → first pool j ≤ line_of (first pool from) * 4294967296 + x1 → in_window x0 y0 x1 y1 (first pool j) ≡ true
  along from j b h a m q = same_line x0 y0 x1 y1 (first pool from) (first pool j) b h (sorted-ordered used pool room s from j m a) q

-- a run goes on from where it was asked for
pub run-onward : (pool : List (List ℕ)) (used i x0 y0 x1 y1 : ℕ) (r : Run) → NextRun pool used i x0 y0 x1 y1 r → i < used → i < r.to
run-onward pool used i x0 y0 x1 y1 r n h = ⊎_elim (λ l. omega (arith, n.more l, n.onward)) (λ l. omega (arith, n.ends, d_not l)) (d_lt r.from used)
  where
    d_not : (r.from < used → ⊥) → used ≤ r.from
    d_not l = omega arith
