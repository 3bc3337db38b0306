-- The answers of the deferred calls: what each says, that there is no other, and that a refused call changes nothing. Assumes nothing.
use Rattle.basics.specs.Words.{ℕ, ◌<◌, ◌≡◌, refl, ap, sym, subst, Bool, true, false, not, List, ⊎_elim, T, eqb, leb, arith, eq-eqb, ne_eqb}
use Rattle.basics.specs.Meaning.Refusals.{or_else, first_of, pick}
use Rattle.basics.proofs.laws.Says.{d_eq}
use Rattle.geometry.specs.Meaning.Domain.{position_in_domain}
use Rattle.geometry.specs.declared.Position.{Position}
use Rattle.slots.specs.declared.Handle.{Handle}
use Rattle.slots.specs.Meaning.Slot.{live, phase_at, version_at, good, why_not_good}
use Rattle.slots.proofs.laws.HandleLaws.{good_says, by_why}
use Rattle.point_records.specs.declared.State.{State}
use Rattle.point_records.specs.declared.State.TheVariants.{Removed}
use Rattle.point_records.specs.Meaning.Occupied.{InDomain}
use Rattle.point_records.specs.Meaning.States.{is_removed, aimed}
use Rattle.point_records.specs.Meaning.Word.{tracker_at}
use Rattle.point_records.specs.Meaning.Trackers.{last_tracker}
use Rattle.point_records.proofs.laws.OwnLaws.{Own, own_refusal, own-passed}
use Rattle.point_tables.specs.Meaning.Tables.{Tables, size_of, slots_of, record_on}
use Rattle.point_tables.specs.Meaning.Holds.{Holds}
use Rattle.point_tables.specs.Meaning.Decide.{holds, holds_says}
use Rattle.point_tables.specs.Meaning.Outcome.{outcome}
use Rattle.point_deferred.specs.Meaning.Moves.{pended, set_held_tests, set_position_answer, set_position_of, remove_answer, remove_of}
use Rattle.replies.specs.Meaning.Replies.{reply}

-- ---- the handle is that of an object
pub record Named (t : Tables) (h : Handle) : Type 0 where
  pub inside : h.slot < slots_of t
  pub occupied : phase_at t.nums h.slot ≡ live
  pub version : version_at t.nums h.slot ≡ h.version

pub named : (t : Tables) (h : Handle) → good t.nums h.slot h.version ≡ true → Named t h
named t h e = let g = (good_says t.nums h.slot h.version).yes e in record { inside = g.0; occupied = g.1; version = g.2 }

-- ---- the tests of a tracker, and n if they pass
own_then : (nums : List (List ℕ)) (h : Handle) (k n : ℕ) → or_else (leb k last_tracker) 13 (or_else (good nums h.slot h.version) (why_not_good nums h) (or_else (eqb (tracker_at nums h.slot) k) 14 n)) ≡ pick (eqb (own_refusal nums h k) 0) n (own_refusal nums h k)
own_then nums h k n = go (leb k last_tracker) (good nums h.slot h.version) (eqb (tracker_at nums h.slot) k)
  where
    first : Bool → Bool → Bool → ℕ → ℕ
    first a b c m = or_else a 13 (or_else b (why_not_good nums h) (or_else c 14 m))

    go : (a b c : Bool) → first a b c n ≡ pick (eqb (first a b c 0) 0) n (first a b c 0)
    go true true true = refl
    go true true false = refl
    go true false c = by_why (λ (w : ℕ). w ≡ pick (eqb w 0) n w) refl refl nums h
    go false b c = refl

-- what `set_position` answers at a position in the domain: n, which the tracker's tests said, and only past them whether the object is removed
abbrev pub past-own : ℕ → State → ℕ
past-own n state = pick (eqb n 0) (or_else (not (is_removed state)) 1 0) n

pub set_tests : (nums : List (List ℕ)) (state : State) (h : Handle) (at : Position) (k : ℕ) → first_of (set_held_tests nums state h at k) ≡ or_else (position_in_domain at) 6 (past-own (own_refusal nums h k) state)
set_tests nums state h at k = ap (or_else (position_in_domain at) 6) (own_then nums h k (or_else (not (is_removed state)) 1 0))

-- what is so of each is so of the one that is picked
pub by_zero : (P : ℕ → Type 0) (n m : ℕ) → (n ≡ 0 → P m) → ((n ≡ 0 → ⊥) → P n) → P (pick (eqb n 0) m n)
by_zero P n m f g = ⊎_elim (λ e. rw (eq-eqb n 0 e) (f e)) (λ z. rw (ne_eqb n 0 z) (g z)) (d_eq n 0)

-- ---- accepted: every test passed
pub record Settable (t : Tables) (h : Handle) (at : Position) (k : ℕ) : Type 0 where
  pub held : Holds t
  pub within_domain : InDomain at
  pub own : Own t.nums h k
  pub names : Named t h
  pub present : is_removed (record_on t h.slot).state ≡ false

pub record Removable (t : Tables) (h : Handle) (k : ℕ) : Type 0 where
  pub held : Holds t
  pub own : Own t.nums h k
  pub names : Named t h

passed : (state : State) (n : ℕ) → past-own n state ≡ 0 → (n ≡ 0) × (is_removed state ≡ false)
passed state n = by_zero (λ (m : ℕ). m ≡ 0 → (n ≡ 0) × (is_removed state ≡ false)) n (or_else (not (is_removed state)) 1 0) (go (is_removed state)) (λ z e. absurd (z e))
  where
    go : (b : Bool) → n ≡ 0 → or_else (not b) 1 0 ≡ 0 → (n ≡ 0) × (b ≡ false)
    go true z e = absurd (omega arith)
    go false z e = (z, refl)

four : (a b : Bool) (state : State) (n : ℕ) → or_else a 3 (or_else b 6 (past-own n state)) ≡ 0 → (a ≡ true) × (b ≡ true) × (n ≡ 0) × (is_removed state ≡ false)
four true true state n e = let p = passed state n e in (refl, refl, p.0, p.1)
four true false state n e = absurd (omega arith)
four false b state n e = absurd (omega arith)

two : (a : Bool) (n : ℕ) → or_else a 3 n ≡ 0 → (a ≡ true) × (n ≡ 0)
two true n e = (refl, e)
two false n e = absurd (omega arith)

pub set-accepted : (t : Tables) (h : Handle) (at : Position) (k : ℕ) → set_position_answer t h at k ≡ 0 → Settable t h at k
unfolding set_position_answer
set-accepted t h at k e =
    let state = (record_on t h.slot).state in
    let f = four (holds t) (position_in_domain at) state (own_refusal t.nums h k) (rw (set_tests t.nums state h at k) at e) in
    let o = own-passed t.nums h k f.2 in
    record {
      held = (holds_says t).yes f.0;
      within_domain = subst T (sym f.1) tt;
      own = o;
      names = named t h o.is_good_lem;
      present = f.3;
    }

pub remove-accepted : (t : Tables) (h : Handle) (k : ℕ) → remove_answer t h k ≡ 0 → Removable t h k
unfolding remove_answer
remove-accepted t h k e =
    let f = two (holds t) (own_refusal t.nums h k) e in
    let o = own-passed t.nums h k f.1 in
    record { held = (holds_says t).yes f.0; own = o; names = named t h o.is_good_lem }

-- ---- the outcome, refused and accepted
module _ (t : Tables) (h : Handle) (at : Position) (k : ℕ) where
  pub set-refused : (set_position_answer t h at k ≡ 0 → ⊥) → set_position_of t h at k ≡ outcome (reply (set_position_answer t h at k) 0) t
  unfolding set_position_of
  set-refused n = rw (ne_eqb (set_position_answer t h at k) 0 n)

  pub set-done : set_position_answer t h at k ≡ 0 → set_position_of t h at k ≡ outcome (reply 0 0) (pended t h.slot (aimed (size_of t) (record_on t h.slot).cell at))
  unfolding set_position_of
  set-done e = rw (eq-eqb (set_position_answer t h at k) 0 e)

module _ (t : Tables) (h : Handle) (k : ℕ) where
  pub remove-refused : (remove_answer t h k ≡ 0 → ⊥) → remove_of t h k ≡ outcome (reply (remove_answer t h k) 0) t
  unfolding remove_of
  remove-refused n = rw (ne_eqb (remove_answer t h k) 0 n)

  pub remove-done : remove_answer t h k ≡ 0 → remove_of t h k ≡ outcome (reply 0 (record_on t h.slot).obj) (pended t h.slot Removed)
  unfolding remove_of
  remove-done e = rw (eq-eqb (remove_answer t h k) 0 e)
