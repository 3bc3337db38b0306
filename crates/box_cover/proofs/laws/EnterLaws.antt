-- A box that enters the lists of the cells of a range: its own entries come in once in each, and those of the others stay. Assumes nothing.
use Rattle.basics.specs.Words.{ℕ, ◌+◌, ◌≤◌, ◌≡◌, refl, sym, ◌∙◌, ap, true, false, List, [], ◌∷◌, map, map-map, length, length-map, arith, eq-eqb, ne_eqb}
use Rattle.cells.specs.declared.Cell.{Cell}
use Rattle.cells.specs.Meaning.Key.{key_of}
use Rattle.cells.specs.Inner.Numbers.{Near}
use Rattle.cells.proofs.laws.Numbers.{near_fits}
use Rattle.cells.specs.Meaning.Range.{cells_in, range_cells}
use Rattle.cells.proofs.laws.RangeLaws.{range_length}
use Rattle.cells.proofs.laws.RangeKeyLaws.{range_rising}
use Rattle.cells.specs.Inner.Rising.{Above, Rising}
use Rattle.storage.specs.Meaning.Keyed.{All, filter, append_all}
use Rattle.storage.specs.Inner.Keyed.{Sorted}
use Rattle.storage.specs.Meaning.Entries.{row_key, is_item}
use Rattle.storage.proofs.laws.FilterLaws.{all_any, all_over, filter-whole, filter_none}
use Rattle.storage.proofs.laws.KeepsLaws.{sorted-map}
use Rattle.storage.proofs.laws.AppendLaws.{sorted-append_all, length-append_all, all_append_all}
use Rattle.storage.proofs.laws.MergeLaws.{append_all-sort, sort_sorted}
use Rattle.box_cover.specs.Meaning.Coverage.{row_in, entered_all, Stands}
use Rattle.box_cover.specs.Inner.Walk.{row_for}
use Rattle.box_cover.proofs.laws.ListLaws.{filter-append_all}

-- ---- the rows of an item in the lists of some cells
abbrev pub rows_in : ℕ → List Cell → List (List ℕ)
rows_in i cs = map (row_in i) cs

module _ (i : ℕ) where
  rows-own : (cs : List Cell) → filter (is_item i) (rows_in i cs) ≡ rows_in i cs
  rows-own cs = filter-whole (is_item i) (rows_in i cs) (all_over (λ r. is_item i r ≡ true) (row_in i) cs (all_any (λ c. is_item i (row_in i c) ≡ true) (λ c. eq-eqb i i refl) cs))

  rows_other : (j : ℕ) → (j ≡ i → ⊥) → (cs : List Cell) → filter (is_item j) (rows_in i cs) ≡ []
  rows_other j n cs = filter_none (is_item j) (rows_in i cs) (all_over (λ r. is_item j r ≡ false) (row_in i) cs (all_any (λ c. is_item j (row_in i c) ≡ false) (λ c. ne_eqb i j (λ e. n (sym e))) cs))

-- in the lists of keys that rise
keys_above : (k : ℕ) (ks : List ℕ) → Above k ks → All (λ j. k ≤ j) ks
keys_above k [] a = tt
keys_above k (j ∷ ks) a = (omega (arith, a.0), keys_above k ks a.1)

pub rising-sorted : (ks : List ℕ) → Rising ks → Sorted (λ k. k) ks
rising-sorted [] r = tt
rising-sorted (k ∷ ks) r = (keys_above k ks r.0, rising-sorted ks r.1)

pub rows-sorted : (i : ℕ) (ks : List ℕ) → Rising ks → Sorted row_key (map (row_for i) ks)
rows-sorted i ks r = sorted-map (row_for i) (λ k. k) row_key (λ k. refl) ks (rising-sorted ks r)

pub range_sorted : (a b : Cell) → Near a → Near b → (i : ℕ) → Sorted row_key (rows_in i (range_cells a b))
range_sorted a b na nb i = rw (map-map (row_for i) key_of (range_cells a b)) at (rows-sorted i (map key_of (range_cells a b)) (range_rising a b (near_fits a na) (near_fits b nb)))

-- ---- entering
module _ (a b : Cell) (i : ℕ) (rows : List (List ℕ)) where
  pub entered-sorted : Sorted row_key rows → Sorted row_key (entered_all a b i rows)
  unfolding entered_all
  entered-sorted s = sorted-append_all row_key rows (rows_in i (range_cells a b)) s

  pub entered-length : length (entered_all a b i rows) ≡ length rows + cells_in a b
  unfolding entered_all
  entered-length = length-append_all row_key rows (rows_in i (range_cells a b)) ∙ ap (λ (n : ℕ). length rows + n) (length-map (range_cells a b) (row_in i) ∙ range_length a b)

  pub entered_all_lem : (P : List ℕ → Type 0) → All P rows → ((c : Cell) → P (row_in i c)) → All P (entered_all a b i rows)
  unfolding entered_all
  entered_all_lem P p q = all_append_all row_key P rows (rows_in i (range_cells a b)) p (all_over P (row_in i) (range_cells a b) (all_any (λ c. P (row_in i c)) q (range_cells a b)))

  -- the entries of another item
  pub entered_others : Sorted row_key rows → (j : ℕ) → (j ≡ i → ⊥) → filter (is_item j) (entered_all a b i rows) ≡ filter (is_item j) rows
  unfolding entered_all
  entered_others s j n = filter-append_all row_key (is_item j) rows (rows_in i (range_cells a b)) s ∙ rw (rows_other i j n (range_cells a b)) (unfold append_all in refl)

  -- its own, where it had none
  pub entered-own : Near a → Near b → Sorted row_key rows → filter (is_item i) rows ≡ [] → filter (is_item i) (entered_all a b i rows) ≡ rows_in i (range_cells a b)
  unfolding entered_all
  entered-own na nb s e =
      filter-append_all row_key (is_item i) rows (rows_in i (range_cells a b)) s
      ∙ rw (e, rows-own i (range_cells a b)) (append_all-sort row_key (rows_in i (range_cells a b)) ∙ sort_sorted row_key (rows_in i (range_cells a b)) (range_sorted a b na nb i))

  pub entered-stands : Near a → Near b → Sorted row_key rows → filter (is_item i) rows ≡ [] → Stands a b i (entered_all a b i rows)
  entered-stands na nb s e = ap (map row_key) (entered-own na nb s e) ∙ map-map row_key (row_in i) (range_cells a b)

  -- another item stands where it stood
  pub entered_keeps : Sorted row_key rows → (c d : Cell) (j : ℕ) → (j ≡ i → ⊥) → Stands c d j rows → Stands c d j (entered_all a b i rows)
  entered_keeps s c d j n st = ap (map row_key) (entered_others s j n) ∙ st
