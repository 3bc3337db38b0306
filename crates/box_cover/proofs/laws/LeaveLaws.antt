-- A box that leaves the lists of the cells of a range: no list has it any more, and the others stay in their lists, where one of them may
-- have moved into its gap. Assumes nothing.
use Rattle.basics.specs.Words.{ℕ, ◌+◌, ◌≤◌, ◌≡◌, refl, sym, ◌∙◌, ap, ap₂, Bool, true, false, List, [], ◌∷◌, map, length, length-map, get_or, eqb, arith, eq-eqb}
use Rattle.basics.specs.Words.{eqb-true, ne_eqb}
use Rattle.basics.specs.Meaning.Refusals.{pick}
use Rattle.cells.specs.declared.Cell.{Cell}
use Rattle.cells.specs.Meaning.Key.{key_of}
use Rattle.cells.specs.Inner.Numbers.{Near}
use Rattle.cells.proofs.laws.Numbers.{near_fits}
use Rattle.cells.specs.Meaning.Range.{cells_in, range_cells}
use Rattle.cells.proofs.laws.RangeLaws.{range_length}
use Rattle.cells.proofs.laws.RangeKeyLaws.{range_rising}
use Rattle.cells.specs.Inner.Rising.{Rising}
use Rattle.storage.specs.Meaning.Keyed.{All, filter, under, on_list, take_out}
use Rattle.storage.specs.Inner.Keyed.{Sorted}
use Rattle.storage.specs.Meaning.Entries.{row_key, is_item}
use Rattle.storage.proofs.laws.FilterLaws.{by_test, all_over, all_of, filter_all, filter_map}
use Rattle.storage.proofs.laws.KeyedLaws.{all_under, sorted_filter, sorted_determined}
use Rattle.storage.proofs.laws.KeepsLaws.{sorted-map}
use Rattle.storage.proofs.laws.TakeOutLaws.{has, has_at, all_take_out, take_out-none}
use Rattle.box_cover.specs.Meaning.Coverage.{left_from, left_all, Stands}
use Rattle.box_cover.specs.Inner.Taken.{taken_from}
use Rattle.box_cover.proofs.laws.TakenLaws.{taken_all, taken-sorted, taken-under, taken-length}
use Rattle.box_cover.proofs.laws.ListLaws.{filter_swap, has_filter, has_map, filter-taken, length-filter-taken, alike, rising-once}

from_keys : (cs : List Cell) (i : ℕ) (rows : List (List ℕ)) → left_from cs i rows ≡ taken_from (map key_of cs) i rows
from_keys [] i rows = refl
from_keys (c ∷ cs) i rows = from_keys cs i (on_list row_key (key_of c) (take_out (is_item i)) rows)

-- ---- leaving
module _ (a b : Cell) (i : ℕ) (rows : List (List ℕ)) where
  -- taken out of the lists of the range's keys
  pub left_keys : left_all a b i rows ≡ taken_from (map key_of (range_cells a b)) i rows
  unfolding left_all
  left_keys = from_keys (range_cells a b) i rows

  pub left-sorted : Sorted row_key rows → Sorted row_key (left_all a b i rows)
  left-sorted s = rw left_keys (taken-sorted i (map key_of (range_cells a b)) rows s)

  pub left_all_lem : (P : List ℕ → Type 0) → All P rows → All P (left_all a b i rows)
  left_all_lem P p = rw left_keys (taken_all i P (map key_of (range_cells a b)) rows p)

-- where the item stands
module _ (a b : Cell) (na : Near a) (nb : Near b) (i : ℕ) (rows : List (List ℕ)) (st : Stands a b i rows) where
  rising : Rising (map key_of (range_cells a b))
  rising = range_rising a b (near_fits a na) (near_fits b nb)

  -- a cell's list has the item if the cell is of the range
  has_cell : (k : ℕ) → has (λ j. eqb j k) (map key_of (range_cells a b)) ≡ has (is_item i) (under row_key k rows)
  has_cell k =
      ap (has (λ j. eqb j k)) (sym st)
      ∙ has_map (λ j. eqb j k) row_key (filter (is_item i) rows)
      ∙ has_filter (λ r. eqb (row_key r) k) (is_item i) rows

  -- every list has lost the item
  pub left-under : (k : ℕ) → under row_key k (left_all a b i rows) ≡ take_out (is_item i) (under row_key k rows)
  left-under k =
      ap (under row_key k) (left_keys a b i rows)
      ∙ taken-under i k (map key_of (range_cells a b)) rows rising
      ∙ ap (λ (x : Bool). pick x (take_out (is_item i) (under row_key k rows)) (under row_key k rows)) (has_cell k)
      ∙ by_test (has (is_item i) (under row_key k rows))
      (λ e. rw e)
      (λ e. rw e (sym (take_out-none (is_item i) (under row_key k rows) e)))

  pub left-length : length (left_all a b i rows) + cells_in a b ≡ length rows
  left-length =
      ap₂ ◌+◌ (ap length (left_keys a b i rows)) (sym (length-map (range_cells a b) key_of ∙ range_length a b))
      ∙ taken-length i (map key_of (range_cells a b)) rows rising
      (all_of (λ k. has (is_item i) (under row_key k rows) ≡ true) 0 (map key_of (range_cells a b))
      (λ n h. sym (has_cell (get_or (map key_of (range_cells a b)) n 0)) ∙ has_at (λ j. eqb j (get_or (map key_of (range_cells a b)) n 0)) 0 (map key_of (range_cells a b)) n h (eq-eqb (get_or (map key_of (range_cells a b)) n 0) (get_or (map key_of (range_cells a b)) n 0) refl)))

  -- once in a list
  pub stands-once : (k : ℕ) → length (filter (is_item i) (under row_key k rows)) ≤ 1
  stands-once k =
      omega (
        arith,
        ap length (filter_swap (is_item i) (λ r. eqb (row_key r) k) rows)
            ∙ sym (length-map (under row_key k (filter (is_item i) rows)) row_key)
            ∙ ap length (sym (filter_map (λ j. eqb j k) row_key (filter (is_item i) rows)) ∙ ap (filter (λ j. eqb j k)) st),
        rising-once k (map key_of (range_cells a b)) rising,
      )

  module _ (s : Sorted row_key rows) where
    pub left-none : filter (is_item i) (left_all a b i rows) ≡ []
    left-none =
        sorted_determined row_key (filter (is_item i) (left_all a b i rows)) [] (sorted_filter row_key (is_item i) (left_all a b i rows) (left-sorted a b i rows s)) tt
        (λ k.
        filter_swap (λ r. eqb (row_key r) k) (is_item i) (left_all a b i rows)
        ∙ ap (filter (is_item i)) (left-under k)
        ∙ filter-taken (is_item i) (under row_key k rows) (stands-once k))

    -- the keys of another item's entries
    module _ (j : ℕ) (n : j ≡ i → ⊥) where
      keys_sorted : (l : List (List ℕ)) → Sorted row_key l → Sorted (λ k. k) (map row_key (filter (is_item j) l))
      keys_sorted l u = sorted-map row_key row_key (λ k. k) (λ r. refl) (filter (is_item j) l) (sorted_filter row_key (is_item j) l u)

      keys_under : (k : ℕ) (l : List (List ℕ)) → under (λ k. k) k (map row_key (filter (is_item j) l)) ≡ map row_key (filter (is_item j) (under row_key k l))
      keys_under k l = filter_map (λ x. eqb x k) row_key (filter (is_item j) l) ∙ ap (map row_key) (filter_swap (λ r. eqb (row_key r) k) (is_item j) l)

      keys_flat : (k : ℕ) (l : List (List ℕ)) → All (λ r. row_key r ≡ k) l → All (λ x. x ≡ k) (map row_key (filter (is_item j) l))
      keys_flat k l p = all_over (λ x. x ≡ k) row_key (filter (is_item j) l) (filter_all (is_item j) (λ r. row_key r ≡ k) l p)

      not_both : (r : List ℕ) → is_item i r ≡ true → is_item j r ≡ false
      not_both r e = ne_eqb (get_or r 1 0) j (λ q. n (sym q ∙ eqb-true (get_or r 1 0) i e))

      pub left_others : map row_key (filter (is_item j) (left_all a b i rows)) ≡ map row_key (filter (is_item j) rows)
      left_others =
          sorted_determined (λ k. k) (map row_key (filter (is_item j) (left_all a b i rows))) (map row_key (filter (is_item j) rows)) (keys_sorted (left_all a b i rows) (left-sorted a b i rows s)) (keys_sorted rows s)
          (λ k.
          keys_under k (left_all a b i rows)
          ∙ ap (λ m. map row_key (filter (is_item j) m)) (left-under k)
          ∙ alike k (map row_key (filter (is_item j) (take_out (is_item i) (under row_key k rows)))) (map row_key (filter (is_item j) (under row_key k rows)))
          (keys_flat k (take_out (is_item i) (under row_key k rows)) (all_take_out (λ r. row_key r ≡ k) (is_item i) (under row_key k rows) (all_under row_key k rows)))
          (keys_flat k (under row_key k rows) (all_under row_key k rows))
          (length-map (filter (is_item j) (take_out (is_item i) (under row_key k rows))) row_key
          ∙ length-filter-taken (is_item j) (is_item i) not_both (under row_key k rows)
          ∙ sym (length-map (filter (is_item j) (under row_key k rows)) row_key))
          ∙ sym (keys_under k rows))

      -- another item stands where it stood
      pub left_keeps : (c d : Cell) → Stands c d j rows → Stands c d j (left_all a b i rows)
      left_keeps c d q = left_others ∙ q
