-- The parts of the check make up what it is to hold a grid, and each follows from it. Assumes nothing.
use Rattle.basics.specs.Words.{ℕ, ◌/◌, ◌<◌, ◌≤◌, ◌≡◌, refl, sym, ap, ◌∙◌, subst, false, List, [], map, inl, inr, length, get_or, eqb, arith, ne_eqb}
use Rattle.basics.specs.Meaning.Says.{Decided}
use Rattle.basics.proofs.laws.Says.{d_eq, d_lt, d_and}
use Rattle.cells.specs.Meaning.Key.{key_of}
use Rattle.cells.specs.Meaning.Range.{range_cells}
use Rattle.slots.specs.Meaning.Slot.{live, phase_at}
use Rattle.storage.specs.Meaning.Keyed.{filter}
use Rattle.storage.specs.Meaning.Entries.{row_key, row_item, is_item}
use Rattle.storage.specs.Meaning.Packed.{second}
use Rattle.storage.proofs.laws.FilterLaws.{all_map, filter_none}
use Rattle.box_tables.specs.Meaning.Tables.{Tables, size_of, used_of, slots_of, entries_in, aabb_on, low_cell, high_cell, covers, item_of, item_on}
use Rattle.box_tables.specs.Meaning.Tables.{Sized}
use Rattle.box_tables.specs.Meaning.Holds.{Holds}
use Rattle.box_tables.specs.declared.way.Way.{Way}
use Rattle.box_tables.specs.declared.slot_ways.Ways.{Ways}
use Rattle.box_tables.specs.Inner.Way.{track_of, OnTrack, span_of, way_of, no_way, way_at}
use Rattle.box_tables.specs.Inner.Check.{Counts, SlotsOk, Room, way_row, blank_row, WaysBy, keys_of, Passes, Ready}
use Rattle.box_tables.proofs.laws.BoxLaws.{item-slot}
use Rattle.box_tables.proofs.laws.HoldsLaws.{Named, StandsOn, entries-named, unnamed}
use Rattle.box_tables.proofs.laws.WayLaws.{Bounded, to_come_one, way_of_box, way_live, way_none, way_slot, slot_bounded}
use Rattle.box_tables.proofs.laws.PassLaws.{keys_some}

module _ (t : Tables) where
  abbrev pub CountsOf : Type 0
  CountsOf = Counts (size_of t) (used_of t) (length t.pool)

  abbrev pub SlotsOf : Type 0
  SlotsOf = SlotsOk t.nums t.reals t.map

  abbrev pub WaysOf : Ways → Type 0
  WaysOf ways = WaysBy t.nums t.reals (size_of t) ways (slots_of t)

  abbrev pub PassesOf : Ways → Type 0
  PassesOf ways = Passes t.pool ways (used_of t)

  abbrev way : ℕ → Way
  way s = way_at t.nums t.reals (size_of t) s

  -- an item is that of a slot's way
  abbrev Of : ℕ → Type 0
  Of i = (i / 2 < slots_of t) × ((way (i / 2)).item ≡ i)

  d_of : (i : ℕ) → Decided (Of i)
  d_of i = d_and (d_lt (i / 2) (slots_of t)) (d_eq ((way (i / 2)).item) i)

  of_slot-item : (s i : ℕ) → s < slots_of t → (way s).item ≡ i → Of i
  of_slot-item s i l e =
      let q : s ≡ i / 2 = sym (way_slot t.nums t.reals (size_of t) s) ∙ ap (λ (k : ℕ). k / 2) e in
      subst (λ (k : ℕ). (k < slots_of t) × ((way k).item ≡ i)) q (l, e)

  live-item : (s : ℕ) → phase_at t.nums s ≡ live → (way s).item ≡ item_on t s
  live-item s p = ap (λ (v : Way). v.item) (way_live t.nums t.reals (size_of t) s p)

  pub slot-room : Sized t → CountsOf → Room t.nums t.reals t.map
  slot-room s c = record { most = s.most; of_reals = s.of_reals; of_map = s.of_map; size = c.within_domain }

  module _ (z : Sized t) (c : CountsOf) (o : SlotsOf) {ways : Ways} (w : WaysOf ways) where
    abbrev row : ℕ → List ℕ
    row i = way_row ways i

    row-own : (i : ℕ) → Of i → row i ≡ track_of (way (i / 2))
    row-own i p = ap row (sym p.1) ∙ w.are (i / 2) p.0

    row-blank : (i : ℕ) → i < 512 → (Of i → ⊥) → row i ≡ blank_row
    row-blank i h n = w.blank i (λ s l e. n (of_slot-item s i l e)) h

    row-none : (i : ℕ) → Of i → (phase_at t.nums (i / 2) ≡ live → ⊥) → row i ≡ track_of (no_way (i / 2))
    row-none i p n = row-own i p ∙ ap track_of (way_none t.nums t.reals (size_of t) (i / 2) n)

    row-live : (s : ℕ) → s < slots_of t → phase_at t.nums s ≡ live → row (item_on t s) ≡ track_of (way_of s (span_of (size_of t) (aabb_on t s)))
    row-live s l p = ap row (sym (live-item s p)) ∙ w.are s l ∙ ap track_of (way_live t.nums t.reals (size_of t) s p)

    bounded : (s : ℕ) → s < slots_of t → Bounded (way s)
    bounded s l = slot_bounded t.nums t.reals (size_of t) s c.within_domain.0 (λ p. ((o.each s l).if_live p).within_domain)

    range_on : (s : ℕ) → s < slots_of t → phase_at t.nums s ≡ live → OnTrack (row (item_on t s)) (map key_of (range_cells (low_cell (size_of t) (aabb_on t s)) (high_cell (size_of t) (aabb_on t s))))
    range_on s l p =
        subst (λ (r : List ℕ). OnTrack r (map key_of (range_cells (low_cell (size_of t) (aabb_on t s)) (high_cell (size_of t) (aabb_on t s))))) (sym (row-live s l p))
        (way_of_box (size_of t) c.within_domain.0 (aabb_on t s) ((o.each s l).if_live p).within_domain s)

    -- a step goes on at every item
    steps_on : (i : ℕ) → i < 512 → 1 ≤ get_or ways.jumps i 0
    steps_on i h = elim (d_of i) [ inl p ↦ omega (arith, ap (λ (r : List ℕ). get_or r 2 0) (row-own i p), (bounded (i / 2) p.0).jump_some) | inr n ↦ omega (arith, ap (λ (r : List ℕ). get_or r 2 0) (row-blank i h n)) ]

    pub pool_ready : Ready t.pool ways (used_of t)
    pool_ready =
        record {
          in_pool = c.used-most;
          most = omega (arith, c.used-most, z.pool-most);
          long = w.long;
          reach = λ i h. elim (d_of i) [ inl p ↦ omega (arith, ap (λ (r : List ℕ). get_or r 0 0) (row-own i p), (bounded (i / 2) p.0).next) | inr n ↦ omega (arith, ap (λ (r : List ℕ). get_or r 0 0) (row-blank i h n)) ];
          steps = λ i h. elim (d_of i) [ inl p ↦ omega (arith, ap (λ (r : List ℕ). get_or r 2 0) (row-own i p), (bounded (i / 2) p.0).jump) | inr n ↦ omega (arith, ap (λ (r : List ℕ). get_or r 2 0) (row-blank i h n)) ];
        }

    -- where the next key is the end no key comes
    idle_none : (i : ℕ) → Of i → (phase_at t.nums (i / 2) ≡ live → ⊥) → get_or ways.nexts i 0 ≡ get_or ways.ends i 0
    idle_none i p n = let e = row-none i p n in ap (λ (r : List ℕ). get_or r 0 0) e ∙ sym (ap (λ (r : List ℕ). get_or r 3 0) e)

    idle_blank : (i : ℕ) → i < 512 → (Of i → ⊥) → get_or ways.nexts i 0 ≡ get_or ways.ends i 0
    idle_blank i h n = let e = row-blank i h n in ap (λ (r : List ℕ). get_or r 0 0) e ∙ sym (ap (λ (r : List ℕ). get_or r 3 0) e)

    -- ---- from the parts to the whole
    module _ (v : PassesOf ways) where
      -- the item of an entry is that of an occupied slot: at another no key comes
      busy : (j : ℕ) (l : j < used_of t) → get_or ways.nexts (second t.pool j) 0 ≡ get_or ways.ends (second t.pool j) 0 → ⊥
      busy j l e =
          let i = second t.pool j in
          let h = v.inside j l in
          keys_some t.pool j i (omega (arith, c.used-most)) (used_of t) l refl
          (to_come_one (get_or ways.stops i 0) (get_or ways.jumps i 0) (get_or ways.ends i 0) (get_or ways.nexts i 0) (steps_on i h) (keys_of t.pool (used_of t) i) [] (v.every i h) e)

      own : (j : ℕ) → j < used_of t → Of (second t.pool j)
      own j l = elim (d_of (second t.pool j)) [ inl p ↦ p | inr n ↦ absurd (busy j l (idle_blank (second t.pool j) (v.inside j l) n)) ]

      occupied : (j : ℕ) → j < used_of t → phase_at t.nums (second t.pool j / 2) ≡ live
      occupied j l = elim (d_eq (phase_at t.nums (second t.pool j / 2)) live) [ inl p ↦ p | inr n ↦ absurd (busy j l (idle_none (second t.pool j) (own j l) n)) ]

      item_is : (j : ℕ) → j < used_of t → second t.pool j ≡ item_on t (second t.pool j / 2)
      item_is j l = sym (own j l).1 ∙ live-item (second t.pool j / 2) (occupied j l)

      item-most : (s : ℕ) → s < slots_of t → item_on t s < 512
      item-most s l = omega (arith, item-slot s (eqb (covers (size_of t) (aabb_on t s)) 1), z.most)

      stands : (s : ℕ) → s < slots_of t → phase_at t.nums s ≡ live → StandsOn t (entries_in t) s
      stands s l p =
          let i = item_on t s in
          to_come_one (get_or ways.stops i 0) (get_or ways.jumps i 0) (get_or ways.ends i 0) (get_or ways.nexts i 0) (steps_on i (item-most s l)) (keys_of t.pool (used_of t) i) _ (v.every i (item-most s l)) (range_on s l p)

      pub whole : Holds t
      whole =
          record {
            sized = z;
            counted = record { size = c.within_domain; used-most = c.used-most };
            slots = record { each = λ s l. (o.each s l).slot; past = o.past };
            boxes = λ s l p. let b = (o.each s l).if_live p in record { within_domain = b.within_domain; cells-most = b.cells-most };
            ordered = v.ordered;
            each = λ j l. record { slot = second t.pool j / 2; inside = (own j l).0; occupied = occupied j l; item = item_is j l };
            every = stands;
          }

  -- ---- from the whole to the parts
  module _ (h : Holds t) where
    pub counts_of : CountsOf
    counts_of = record { within_domain = h.counted.size; used-most = h.counted.used-most }

    pub slots_of_lem : SlotsOf
    slots_of_lem = record { each = λ s l. record { slot = h.slots.each s l; if_live = λ p. let b = h.boxes s l p in record { within_domain = b.within_domain; cells-most = b.cells-most } }; past = h.slots.past }

    module _ {ways : Ways} (w : WaysOf ways) where
      -- an item that is no slot's has no entry
      nobody : (i : ℕ) → (Of i → ⊥) → filter (is_item i) (entries_in t) ≡ []
      nobody i n =
          filter_none (is_item i) (entries_in t)
          (all_map (Named t) (λ r. is_item i r ≡ false)
          (λ r x. ne_eqb (row_item r) i (λ e. n (of_slot-item x.slot i x.inside (live-item x.slot x.occupied ∙ sym x.item ∙ e))))
          (entries_in t) (entries-named t h))

      -- no entry, and the next key is the end
      none_on : (i : ℕ) → filter (is_item i) (entries_in t) ≡ [] → get_or ways.nexts i 0 ≡ get_or ways.ends i 0 → OnTrack (way_row ways i) (keys_of t.pool (used_of t) i)
      none_on i e q = subst (OnTrack (way_row ways i)) (sym (ap (map row_key) e)) q

      every-own : (i : ℕ) → Of i → Decided (phase_at t.nums (i / 2) ≡ live) → OnTrack (way_row ways i) (keys_of t.pool (used_of t) i)
      every-own i p (inl q) =
          let s = i / 2 in
          let e : item_on t s ≡ i = sym (live-item s q) ∙ p.1 in
          subst (λ (k : ℕ). OnTrack (way_row ways k) (keys_of t.pool (used_of t) k)) e
          (subst (OnTrack (way_row ways (item_on t s))) (sym (h.every s p.0 q)) (range_on h.sized counts_of slots_of_lem w s p.0 q))
      every-own i p (inr n) =
          let s = i / 2 in
          let e : item_of s false ≡ i = sym (ap (λ (v : Way). v.item) (way_none t.nums t.reals (size_of t) s n)) ∙ p.1 in
          none_on i (subst (λ (k : ℕ). filter (is_item k) (entries_in t) ≡ []) e (unnamed t h s n false)) (idle_none h.sized counts_of slots_of_lem w i p n)

      pub passes_of : PassesOf ways
      passes_of =
          record {
            ordered = h.ordered;
            inside = λ j l. let e = h.each j l in omega (arith, e.inside, h.sized.most, ap (λ (k : ℕ). k / 2) e.item ∙ item-slot e.slot (eqb (covers (size_of t) (aabb_on t e.slot)) 1));
            every = λ i l. elim (d_of i) [ inl p ↦ every-own i p (d_eq (phase_at t.nums (i / 2)) live) | inr n ↦ none_on i (nobody i n) (idle_blank h.sized counts_of slots_of_lem w i l n) ];
          }
