-- What follows from tables that hold a grid: lengths, the order of the entries, what each names; and, the other way, tables that hold a
-- grid by facts of the list of their entries. Assumes nothing.
use Rattle.basics.specs.Words.{ℕ, ◌/◌, ◌<◌, ◌≤◌, ◌≡◌, sym, ap, ◌∙◌, subst, Bool, false, List, [], inl, inr, length, length-take-le, eqb, arith, ne_eqb}
use Rattle.basics.proofs.laws.Says.{says_same, says_via, eqb_says, d_lt}
use Rattle.cells.specs.Inner.Numbers.{Near}
use Rattle.slots.specs.Meaning.Slot.{live, phase_at, SlotsHold}
use Rattle.storage.specs.Meaning.Keyed.{All, filter}
use Rattle.storage.specs.Inner.Keyed.{Sorted}
use Rattle.storage.specs.Meaning.Entries.{row_key, row_item, is_item}
use Rattle.storage.specs.Meaning.Packed.{first}
use Rattle.storage.proofs.laws.PackedLaws.{all_first, first_all, ordered-sorted, sorted-ordered}
use Rattle.storage.proofs.laws.FilterLaws.{all_map, filter_none, filter_same}
use Rattle.box_cover.specs.Meaning.Coverage.{Stands}
use Rattle.box_tables.specs.Meaning.Tables.{Tables, size_of, used_of, slots_of, entries_in, aabb_on, low_cell, high_cell, covers, item_of, item_on}
use Rattle.box_tables.specs.Meaning.Tables.{slot_of, Sized}
use Rattle.box_tables.specs.Meaning.Holds.{Counted, BoxHolds, Holds}
use Rattle.box_tables.proofs.laws.BoxLaws as Box
use Rattle.box_tables.proofs.laws.BoxLaws.{item-slot, item-same}

-- ---- the lists, as facts of the list of the entries
-- an entry names an occupied slot, with the mark that its box has
pub record Named (t : Tables) (row : List ℕ) : Type 0 where
  pub slot : ℕ
  pub inside : slot < slots_of t
  pub occupied : phase_at t.nums slot ≡ live
  pub item : row_item row ≡ item_on t slot

-- the box of slot s stands once in the list of each cell that it covers, and in no other
abbrev pub StandsOn : Tables → List (List ℕ) → ℕ → Type 0
StandsOn t rows s = Stands (low_cell (size_of t) (aabb_on t s)) (high_cell (size_of t) (aabb_on t s)) (item_on t s) rows

pub record Listing (t : Tables) (rows : List (List ℕ)) : Type 0 where
  pub ordered : Sorted row_key rows
  pub each : All (Named t) rows
  pub every : (s : ℕ) → s < slots_of t → phase_at t.nums s ≡ live → StandsOn t rows s

pub named-slot : (t : Tables) (r : List ℕ) (w : Named t r) → slot_of r ≡ w.slot
named-slot t r w = ap (λ (i : ℕ). i / 2) w.item ∙ item-slot w.slot (eqb (covers (size_of t) (aabb_on t w.slot)) 1)

module _ (t : Tables) where
  -- two slots have different items
  pub item_on_same : (s k : ℕ) → item_on t s ≡ item_on t k → s ≡ k
  item_on_same s k e = item-same s k (eqb (covers (size_of t) (aabb_on t s)) 1) (eqb (covers (size_of t) (aabb_on t k)) 1) e

  -- rows of a slot that is not occupied: none, with either mark
  pub not_named : (rows : List (List ℕ)) → All (Named t) rows → (s : ℕ) → (phase_at t.nums s ≡ live → ⊥) → (m : Bool) → filter (is_item (item_of s m)) rows ≡ []
  not_named rows a s n m =
      filter_none (is_item (item_of s m)) rows
      (all_map (Named t) (λ r. is_item (item_of s m) r ≡ false) (λ r w.
      ne_eqb (row_item r) (item_of s m) (λ e.
      let q : w.slot ≡ s = item-same w.slot s (eqb (covers (size_of t) (aabb_on t w.slot)) 1) m (sym w.item ∙ e) in
      n (ap (phase_at t.nums) (sym q) ∙ w.occupied))) rows a)

  -- the rows of a slot are those of its item
  pub of_slot : (rows : List (List ℕ)) → All (Named t) rows → (s : ℕ) → filter (λ r. eqb (slot_of r) s) rows ≡ filter (is_item (item_on t s)) rows
  of_slot rows a s = filter_same (λ r. eqb (slot_of r) s) (is_item (item_on t s)) rows (all_map (Named t) (λ r. eqb (slot_of r) s ≡ is_item (item_on t s) r) same rows a)
    where
      same : (r : List ℕ) → Named t r → eqb (slot_of r) s ≡ is_item (item_on t s) r
      same r w =
          let e : slot_of r ≡ w.slot = named-slot t r w in
          says_same (eqb (slot_of r) s) (is_item (item_on t s) r) (eqb_says (slot_of r) s)
          (says_via (λ q. e ∙ item_on_same w.slot s (sym w.item ∙ q)) (λ q. w.item ∙ ap (item_on t) (sym e ∙ q)) (eqb_says (row_item r) (item_on t s)))

module _ (t : Tables) (h : Holds t) where
  -- ---- lengths
  pub used_in_pool : used_of t ≤ length t.pool
  used_in_pool = h.counted.used-most

  pub entries-length : length (entries_in t) ≡ used_of t
  entries-length = length-take-le (used_of t) t.pool used_in_pool

  -- ---- order, and what each entry names
  pub entries_sorted : Sorted row_key (entries_in t)
  entries_sorted = ordered-sorted (used_of t) t.pool used_in_pool (λ i j l g. elim (d_lt i j) [ inl q ↦ h.ordered i j l q | inr q ↦ same i j (omega (arith, q)) ])
    where
      same : (i j : ℕ) → i ≡ j → first t.pool i ≤ first t.pool j
      same i j e = omega (arith, ap (first t.pool) e)

  pub entries-named : All (Named t) (entries_in t)
  entries-named = all_first (used_of t) t.pool used_in_pool (Named t) (λ j l. let e = h.each j l in record { slot = e.slot; inside = e.inside; occupied = e.occupied; item = e.item })

  -- a slot that is not occupied has no entry, with either mark
  pub unnamed : (s : ℕ) → (phase_at t.nums s ≡ live → ⊥) → (m : Bool) → filter (is_item (item_of s m)) (entries_in t) ≡ []
  unnamed = not_named t (entries_in t) entries-named

  -- ---- the corner cells of a box
  module _ (s : ℕ) (l : s < slots_of t) (p : phase_at t.nums s ≡ live) where
    pub low_near : Near (low_cell (size_of t) (aabb_on t s))
    low_near = Box.low_near (aabb_on t s) (h.boxes s l p).within_domain (size_of t)

    pub high-near : Near (high_cell (size_of t) (aabb_on t s))
    high-near = Box.high-near (aabb_on t s) (h.boxes s l p).within_domain (size_of t)

-- ---- tables hold a grid if their parts do, and the list of their entries
pub holds_of : (t : Tables) (rows : List (List ℕ)) → Sized t → Counted t → SlotsHold t.nums t.map → ((s : ℕ) → s < slots_of t → phase_at t.nums s ≡ live → BoxHolds t s) → entries_in t ≡ rows → Listing t rows → Holds t
holds_of t rows sized counted slots boxes e g =
    let w : Listing t (entries_in t) = subst (Listing t) (sym e) g in
    record {
      sized = sized;
      counted = counted;
      slots = slots;
      boxes = boxes;
      ordered = λ i j l q. sorted-ordered (used_of t) t.pool counted.used-most w.ordered i j l (omega (arith, q));
      each = λ j l. let n = first_all (used_of t) t.pool counted.used-most (Named t) w.each j l in record { slot = n.slot; inside = n.inside; occupied = n.occupied; item = n.item };
      every = w.every;
    }
