-- Taking and emptying a slot keep the slots as they must be, and only a free slot is ever the lowest usable one. Assumes nothing.
use Rattle.basics.specs.Words.{ℕ, ◌+◌, ◌*◌, ◌/◌, ◌≤◌, ◌<◌, ◌≡◌, refl, sym, ◌∙◌, Bool, true, false, List, [], ◌∷◌, length, get_or, set, drop, length-set}
use Rattle.basics.specs.Words.{get_or-set_same, get_or-set_other, eqb, arith, eqb-true, eqb-false, eq-eqb, ne_eqb}
use Rattle.basics.specs.Meaning.Refusals.{pick}
use Rattle.std.specs.Prelude.{None, Some}
use Rattle.slots.specs.Meaning.Map.{head, words_for, usable, taken, given_back, lowest_usable}
use Rattle.slots.specs.Meaning.Slot.{free, live, retired, last_version, version_at, phase_at, emptied_nums, emptied_map, SlotHolds, SlotsHold}
use Rattle.slots.proofs.laws.MapLaws.{taken-same, taken_other, given-back-same, given-back_other}
use Rattle.slots.proofs.laws.LowestLaws.{lowest_at, lowest_none}

-- one row and its bit change
module _ (nums : List (List ℕ)) (map : List ℕ) (h : SlotsHold nums map) (s : ℕ) (i : s < length nums) where
  pub set_holds : (row : List ℕ) (after : List ℕ) → ((t : ℕ) → (s ≡ t → ⊥) → usable after t ≡ usable map t) → SlotHolds (get_or row 0 0) (get_or row 1 0) (usable after s) → SlotsHold (set nums s row) after
  set_holds row after same new = record { each = λ t l. one t (eqb t s) refl (rw length-set at l); past = λ t l m. behind t (rw length-set at l) (rw length-set at m) }
    where
      one : (t : ℕ) (b : Bool) → eqb t s ≡ b → t < length nums → SlotHolds (version_at (set nums s row) t) (phase_at (set nums s row) t) (usable after t)
      one t true e l = rw (eqb-true t s e, get_or-set_same nums s row [] i) new
      one t false e l =
          let n = eqb-false t s e in
          rw (get_or-set_other nums s t row [] n, same t (λ q. n (sym q))) (h.each t l)

      behind : (t : ℕ) → t < words_for (length nums) * 64 → length nums ≤ t → usable after t ≡ 0
      behind t l m = same t (λ q. omega arith) ∙ h.past t l m

  -- the numbers behind version and phase do not matter
  pub row-holds : (row : List ℕ) → get_or row 0 0 ≡ version_at nums s → get_or row 1 0 ≡ phase_at nums s → SlotsHold (set nums s row) map
  row-holds row e f = set_holds row map (λ t n. refl) (rw (e, f) (h.each s i))

  -- ---- a free slot is taken: its version stays, and it lives
  module _ (sized : length map ≡ head + words_for (length nums)) where
    in_map : head + s / 64 < length map
    in_map = omega arith

    pub taken-holds : phase_at nums s ≡ free → (row : List ℕ) → get_or row 0 0 ≡ version_at nums s → get_or row 1 0 ≡ live → SlotsHold (set nums s row) (taken map s)
    taken-holds p row e f = set_holds row (taken map s) (taken_other map s in_map) (rw (e, f) (record { versioned = (h.each s i).versioned; phased = omega arith; spent = λ q. absurd (omega arith); in_map = taken-same map s in_map }))

    -- ---- a live slot is emptied
    pub emptied-holds : phase_at nums s ≡ live → SlotsHold (emptied_nums nums s) (emptied_map nums map s)
    unfolding emptied_nums emptied_map
    emptied-holds p = go (eqb (version_at nums s) last_version) refl
      where
        go : (b : Bool) → eqb (version_at nums s) last_version ≡ b → SlotsHold (set nums s (pick b last_version (version_at nums s + 1) ∷ pick b retired free ∷ drop 2 (get_or nums s []))) (pick b map (given_back map s))
        go true e = set_holds _ map (λ t n. refl) (record { versioned = λ q. omega arith; phased = omega arith; spent = λ q. refl; in_map = (h.each s i).in_map ∙ rw (ne_eqb (phase_at nums s) free (λ q. omega arith)) })
        go false e = set_holds _ (given_back map s) (given-back_other map s in_map) (record { versioned = λ q. omega arith; phased = omega arith; spent = λ q. absurd (omega arith); in_map = given-back-same map s in_map })

-- ---- the lowest usable slot is a free one
module _ (nums : List (List ℕ)) (map : List ℕ) (h : SlotsHold nums map) where
  bit_of_free : (s : ℕ) → s < length nums → usable map s ≡ 1 → phase_at nums s ≡ free
  bit_of_free s i e = go (eqb (phase_at nums s) free) refl (h.each s i).in_map
    where
      go : (b : Bool) → eqb (phase_at nums s) free ≡ b → usable map s ≡ pick b 1 0 → phase_at nums s ≡ free
      go true q r = eqb-true (phase_at nums s) free q
      go false q r = absurd (omega arith)

  pub lowest_free : (s : ℕ) → lowest_usable map (length nums) ≡ Some s → (s < length nums) × (phase_at nums s ≡ free)
  lowest_free s e =
      let l = lowest_at map (length nums) s e in
      (l.0, bit_of_free s l.0 l.1)

  pub lowest_none-free : lowest_usable map (length nums) ≡ None → (t : ℕ) → t < length nums → phase_at nums t ≡ free → ⊥
  lowest_none-free e t l p = omega (arith, lowest_none map (length nums) e t l, rw (eq-eqb (phase_at nums t) free p) at (h.each t l).in_map)

  pub retired_never : (s : ℕ) → phase_at nums s ≡ retired → lowest_usable map (length nums) ≡ Some s → ⊥
  retired_never s p e = omega (arith, (lowest_free s e).1)
