-- The tests of a call that names a tracker: what an answer of 0 says, and what the others are. Assumes nothing.
use Rattle.basics.specs.Words.{ℕ, ◌<◌, ◌≤◌, ◌≡◌, refl, Bool, true, false, List, eqb, leb, arith, leb-true, eqb-true, eq-eqb, ne_eqb, le-leb, lt-leb}
use Rattle.basics.specs.Meaning.Refusals.{or_else, first_of}
use Rattle.slots.specs.declared.Handle.{Handle}
use Rattle.slots.specs.Meaning.Slot.{good, why_not_good}
use Rattle.slots.proofs.laws.HandleLaws.{by_why}
use Rattle.point_records.specs.Meaning.Word.{tracker_at}
use Rattle.point_records.specs.Meaning.Trackers.{last_tracker, own_tests}

-- ---- the object of a good handle is this tracker's
pub record Own (nums : List (List ℕ)) (h : Handle) (k : ℕ) : Type 0 where
  pub known : k ≤ last_tracker
  pub is_good_lem : good nums h.slot h.version ≡ true
  pub owner : tracker_at nums h.slot ≡ k

module _ (nums : List (List ℕ)) (h : Handle) (k : ℕ) where
  abbrev known : Bool
  known = leb k last_tracker

  abbrev fine : Bool
  fine = good nums h.slot h.version

  abbrev mine : Bool
  mine = eqb (tracker_at nums h.slot) k

  abbrev pub own_refusal : ℕ
  own_refusal = first_of (own_tests nums h k)

  -- 0, and only then
  own-passed_by : (a b c : Bool) → or_else a 13 (or_else b (why_not_good nums h) (or_else c 14 0)) ≡ 0 → (a ≡ true) × (b ≡ true) × (c ≡ true)
  own-passed_by true true true e = (refl, refl, refl)
  own-passed_by true true false e = absurd (omega arith)
  own-passed_by true false c e = absurd (by_why (λ (n : ℕ). n ≡ 0 → ⊥) (λ q. omega arith) (λ q. omega arith) nums h e)
  own-passed_by false b c e = absurd (omega arith)

  pub own-passed : own_refusal ≡ 0 → Own nums h k
  own-passed e =
      let p = own-passed_by known fine mine e in
      record { known = leb-true k last_tracker p.0; is_good_lem = p.1; owner = eqb-true (tracker_at nums h.slot) k p.2 }

  pub own-zero : Own nums h k → own_refusal ≡ 0
  own-zero o = rw (le-leb k last_tracker o.known, o.is_good_lem, eq-eqb (tracker_at nums h.slot) k o.owner)

  -- ---- each refusal
  pub own_13 : last_tracker < k → own_refusal ≡ 13
  own_13 l = rw (lt-leb k last_tracker l)

  pub own_bad : k ≤ last_tracker → fine ≡ false → own_refusal ≡ why_not_good nums h
  own_bad l e = rw (le-leb k last_tracker l, e)

  pub own_14 : k ≤ last_tracker → fine ≡ true → (tracker_at nums h.slot ≡ k → ⊥) → own_refusal ≡ 14
  own_14 l e n = rw (le-leb k last_tracker l, e, ne_eqb (tracker_at nums h.slot) k n)

  -- what is so of 0, 11, 12, 13 and 14 is so of it
  pub by_own : (P : ℕ → Type 0) → P 0 → P 11 → P 12 → P 13 → P 14 → P own_refusal
  by_own P p0 p11 p12 p13 p14 = go known fine mine
    where
      go : (a b c : Bool) → P (or_else a 13 (or_else b (why_not_good nums h) (or_else c 14 0)))
      go true true true = p0
      go true true false = p14
      go true false c = by_why P p11 p12 nums h
      go false b c = p13
