-- Tables hold a grid in the words of document 01: each object stands once in the list of each cell that it covers, with its mark, and in
-- no other list. That follows from `Stands`, and `Stands` from it, so that nothing is refused that 01 admits. Assumes nothing.
use Rattle.basics.specs.Words.{ℕ, ◌<◌, ◌≤◌, ◌≡◌, refl, sym, ap, ◌∙◌, subst, Bool, true, false, List, [], ◌∷◌, map, inl, inr, length, T, eqb, arith, eqb-true}
use Rattle.basics.specs.Words.{ne_eqb}
use Rattle.basics.specs.Meaning.Refusals.{pick}
use Rattle.basics.specs.Meaning.Says.{Decided}
use Rattle.basics.proofs.laws.Says.{d_lt}
use Rattle.geometry.specs.Meaning.Domain.{aabb_in_domain}
use Rattle.cells.specs.declared.Cell.{Cell}
use Rattle.cells.proofs.laws.Numbers.{Fits, near_fits}
use Rattle.cells.specs.Meaning.Range.{range_cells}
use Rattle.cells.proofs.laws.Range.{in_range}
use Rattle.cells.proofs.laws.RangeLaws.{cells_in_lem}
use Rattle.cells.specs.Meaning.Key.{key_of}
use Rattle.cells.specs.Inner.Key.{cell_of_key}
use Rattle.cells.proofs.laws.KeyLaws.{key_lt, key-cell, cell-key-fits}
use Rattle.cells.proofs.laws.RangeKeyLaws.{range_rising}
use Rattle.cells.specs.Inner.Rising.{Rising}
use Rattle.slots.specs.Meaning.Slot.{live, phase_at, SlotsHold}
use Rattle.storage.specs.Meaning.Keyed.{All, filter, under}
use Rattle.storage.specs.Inner.Keyed.{Sorted}
use Rattle.storage.specs.Meaning.Entries.{row_key, row_item, is_item}
use Rattle.storage.proofs.laws.FilterLaws.{by_test, all_map, all_over, filter_all, filter_gives, filter_none, filter_map}
use Rattle.storage.proofs.laws.KeyedLaws.{all_under, sorted_filter, sorted_determined}
use Rattle.storage.proofs.laws.KeepsLaws.{sorted-map}
use Rattle.storage.proofs.laws.TakeOutLaws.{has}
use Rattle.storage.proofs.laws.WindowLaws.{member_has, key_in, range_fits, window_cell, window_key, key_window}
use Rattle.box_cover.specs.Meaning.Coverage.{Stands}
use Rattle.box_cover.proofs.laws.EnterLaws.{rising-sorted}
use Rattle.box_cover.proofs.laws.ListLaws.{filter_swap, filter_empty, has_map, rising-once}
use Rattle.box_tables.specs.Meaning.Tables.{Tables, size_of, slots_of, entries_in, aabb_on, low_cell, high_cell, item_on, slot_of, Sized}
use Rattle.box_tables.specs.Meaning.Holds.{Counted, BoxHolds, Holds}
use Rattle.box_tables.proofs.laws.BoxLaws.{low_near, high-near}
use Rattle.box_tables.proofs.laws.HoldsLaws.{Named, StandsOn, of_slot, entries-named, holds_of}

-- ---- the words of 01
-- the items of slot s in the list of cell c, among these rows
abbrev pub items_in : List (List ℕ) → ℕ → Cell → List ℕ
items_in rows s c = map row_item (filter (λ r. eqb (slot_of r) s) (under row_key (key_of c) rows))

-- the list of a cell has the item of slot s once, if its box covers the cell, and else none of the slot
abbrev pub Listed : Tables → List (List ℕ) → ℕ → Type 0
Listed t rows s = (c : Cell) → Fits c → items_in rows s c ≡ pick (in_range (low_cell (size_of t) (aabb_on t s)) (high_cell (size_of t) (aabb_on t s)) c) (item_on t s ∷ []) []

-- ---- lists of numbers
rising-filter : (k : ℕ) (ks : List ℕ) → Rising ks → filter (λ x. eqb x k) ks ≡ pick (has (λ x. eqb x k) ks) (k ∷ []) []
rising-filter k [] r = refl
rising-filter k (x ∷ ks) r =
    by_test (eqb x k)
    (λ e.
    let one : length (filter (λ y. eqb y k) (x ∷ ks)) ≤ 1 = rising-once k (x ∷ ks) r in
    let h : length (filter (λ y. eqb y k) ks) ≤ 0 = omega (arith, rw e at one) in
    rw (e, filter_none (λ y. eqb y k) ks (filter_empty (λ y. eqb y k) ks h)) (ap (λ (n : ℕ). n ∷ []) (eqb-true x k e)))
    (λ e. rw e (rising-filter k ks r.1))

-- of rows that are alike in two ways, one way tells whether there is one of them or none, and so does the other
module _ {A : Type 0} (f g : A → ℕ) (v w : ℕ) where
  one_or_none : (l : List A) → All (λ x. g x ≡ w) l → (b : Bool) → map f l ≡ pick b (v ∷ []) [] → map g l ≡ pick b (w ∷ []) []
  one_or_none [] a true e = absurd (omega (arith, ap length e))
  one_or_none [] a false e = refl
  one_or_none (x ∷ []) a true e = ap (λ (n : ℕ). n ∷ []) a.0
  one_or_none (x ∷ []) a false e = absurd (omega (arith, ap length e))
  one_or_none (x ∷ y ∷ l) a true e = absurd (omega (arith, ap length e))
  one_or_none (x ∷ y ∷ l) a false e = absurd (omega (arith, ap length e))

-- ---- a range of cells, and the rows of an item
module _ (a b : Cell) (fa : Fits a) (fb : Fits b) where
  range_filter : (k : ℕ) → filter (λ x. eqb x k) (map key_of (range_cells a b)) ≡ pick (key_in a b k) (k ∷ []) []
  range_filter k = rising-filter k (map key_of (range_cells a b)) (range_rising a b fa fb) ∙ ap (λ (h : Bool). pick h (k ∷ []) []) (has_map (λ x. eqb x k) key_of (range_cells a b))

  -- the key of a cell of the range fits 64 bits
  key_in_lt : (k : ℕ) → key_in a b k ≡ true → k < 18446744073709551616
  key_in_lt k e =
      let m = member_has (λ c. eqb (key_of c) k) (range_cells a b) e in
      omega (arith, eqb-true (key_of m.0) k m.2, key_lt m.0 (range_fits a b fa fb m.0 (cells_in_lem a b m.0 m.1)))

  module _ (i : ℕ) (rows : List (List ℕ)) where
    abbrev own : List (List ℕ)
    own = filter (is_item i) rows

    own_items : (k : ℕ) → All (λ r. row_item r ≡ i) (under row_key k own)
    own_items k = filter_all (λ r. eqb (row_key r) k) (λ r. row_item r ≡ i) own (filter_gives (is_item i) (λ r. row_item r ≡ i) (λ r e. eqb-true (row_item r) i e) rows)

    own_keys : (k : ℕ) → map row_key (under row_key k own) ≡ filter (λ x. eqb x k) (map row_key own)
    own_keys k = sym (filter_map (λ x. eqb x k) row_key own)

    -- its items in the list of a cell, if it stands in the lists of the range
    stands_items : Stands a b i rows → (c : Cell) → Fits c → map row_item (under row_key (key_of c) own) ≡ pick (in_range a b c) (i ∷ []) []
    stands_items s c fc =
        one_or_none row_key row_item (key_of c) i (under row_key (key_of c) own) (own_items (key_of c)) (in_range a b c)
        (own_keys (key_of c) ∙ ap (filter (λ x. eqb x (key_of c))) s ∙ range_filter (key_of c)
        ∙ ap (λ (h : Bool). pick h (key_of c ∷ []) []) (key_window a b fa fb (key_of c) (key_lt c fc) ∙ window_cell a b fa fb c fc))

    -- and the other way
    module _ (sorted : Sorted row_key rows) (small : All (λ r. row_key r < 18446744073709551616) rows) (f : (c : Cell) → Fits c → map row_item (under row_key (key_of c) own) ≡ pick (in_range a b c) (i ∷ []) []) where
      same-under : (k : ℕ) → Decided (k < 18446744073709551616) → filter (λ x. eqb x k) (map row_key own) ≡ filter (λ x. eqb x k) (map key_of (range_cells a b))
      same-under k (inl h) =
          let c = cell_of_key k in
          let e : map row_item (under row_key k own) ≡ pick (in_range a b c) (i ∷ []) [] = rw (key-cell k) at (f c (cell-key-fits k h)) in
          sym (own_keys k) ∙ one_or_none row_item row_key i k (under row_key k own) (all_under row_key k own) (in_range a b c) e
          ∙ ap (λ (b : Bool). pick b (k ∷ []) []) (sym (key_window a b fa fb k h ∙ window_key a b fa fb k h)) ∙ sym (range_filter k)
      same-under k (inr n) =
          let none : key_in a b k ≡ false = by_test (key_in a b k) (λ e. absurd (n (key_in_lt k e))) (λ e. e) in
          filter_none (λ x. eqb x k) (map row_key own)
          (all_over (λ x. eqb x k ≡ false) row_key own (filter_all (is_item i) (λ r. eqb (row_key r) k ≡ false) rows (all_map (λ r. row_key r < 18446744073709551616) (λ r. eqb (row_key r) k ≡ false) (λ r h. ne_eqb (row_key r) k (λ e. n (subst (λ (j : ℕ). j < 18446744073709551616) e h))) rows small)))
          ∙ sym (range_filter k ∙ ap (λ (b : Bool). pick b (k ∷ []) []) none)

      items_stand : Stands a b i rows
      items_stand =
          sorted_determined (λ k. k) (map row_key own) (map key_of (range_cells a b))
          (sorted-map row_key row_key (λ k. k) (λ r. refl) own (sorted_filter row_key (is_item i) rows sorted))
          (rising-sorted (map key_of (range_cells a b)) (range_rising a b fa fb))
          (λ k. same-under k (d_lt k 18446744073709551616))

-- ---- the tables
module _ (t : Tables) (rows : List (List ℕ)) (named : All (Named t) rows) (s : ℕ) (inside : T (aabb_in_domain (aabb_on t s))) where
  abbrev low : Cell
  low = low_cell (size_of t) (aabb_on t s)

  abbrev high : Cell
  high = high_cell (size_of t) (aabb_on t s)

  fits_low : Fits low
  fits_low = near_fits low (low_near (aabb_on t s) inside (size_of t))

  fits-high : Fits high
  fits-high = near_fits high (high-near (aabb_on t s) inside (size_of t))

  -- the rows of the slot in a list are those of its item
  items_of : (c : Cell) → items_in rows s c ≡ map row_item (under row_key (key_of c) (filter (is_item (item_on t s)) rows))
  items_of c = ap (map row_item) (filter_swap (λ r. eqb (slot_of r) s) (λ r. eqb (row_key r) (key_of c)) rows ∙ ap (under row_key (key_of c)) (of_slot t rows named s))

  pub stands-listed : StandsOn t rows s → Listed t rows s
  stands-listed g c fc = items_of c ∙ stands_items low high fits_low fits-high (item_on t s) rows g c fc

  pub listed-stands : Sorted row_key rows → All (λ r. row_key r < 18446744073709551616) rows → Listed t rows s → StandsOn t rows s
  listed-stands sorted small g = items_stand low high fits_low fits-high (item_on t s) rows sorted small (λ c fc. sym (items_of c) ∙ g c fc)

-- tables that hold a grid
pub listed : (t : Tables) → Holds t → (s : ℕ) → s < slots_of t → phase_at t.nums s ≡ live → Listed t (entries_in t) s
listed t h s l p = stands-listed t (entries_in t) (entries-named t h) s (h.boxes s l p).within_domain (h.every s l p)

-- nothing is refused that 01 admits: entries in the order of the keys, which are of 64 bits, each of them of an occupied slot with its mark
pub holds-listed : (t : Tables) → Sized t → Counted t → SlotsHold t.nums t.map → ((s : ℕ) → s < slots_of t → phase_at t.nums s ≡ live → BoxHolds t s) → Sorted row_key (entries_in t) → All (λ r. row_key r < 18446744073709551616) (entries_in t) → All (Named t) (entries_in t) → ((s : ℕ) → s < slots_of t → phase_at t.nums s ≡ live → Listed t (entries_in t) s) → Holds t
holds-listed t sized counted slots boxes sorted small named g =
    holds_of t (entries_in t) sized counted slots boxes refl
    (record { ordered = sorted; each = named; every = λ s l p. listed-stands t (entries_in t) named s (boxes s l p).within_domain sorted small (g s l p) })
