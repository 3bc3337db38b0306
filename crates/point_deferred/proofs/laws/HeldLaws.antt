-- On tables that hold a grid a deferred call is `held_of`, with the pool or without it, and it leaves tables that are ready for the next.
-- Assumes nothing.
use Rattle.basics.specs.Words.{ℕ, ◌≡◌, refl, sym, ap, ◌∙◌, subst, Bool, true, false, not, List, [], ◌∷◌, ⊎_elim, length, T, eqb, arith, eqb-false, eq-eqb}
use Rattle.basics.specs.Words.{ne_eqb}
use lib.Ieee.{Float}
use Rattle.basics.proofs.laws.Says.{d_eq}
use Rattle.basics.specs.Meaning.Refusals.{or_else}
use Rattle.geometry.specs.Meaning.Domain.{position_in_domain}
use Rattle.geometry.specs.declared.Position.{Position}
use Rattle.slots.specs.declared.Handle.{Handle}
use Rattle.point_records.specs.declared.State.{State}
use Rattle.point_records.specs.Meaning.Occupied.{InDomain}
use Rattle.point_records.specs.Meaning.States.{is_removed}
use Rattle.point_records.proofs.laws.OwnLaws.{Own, own_refusal, own-passed}
use Rattle.point_tables.specs.Meaning.Tables.{Tables, size_of, record_on}
use Rattle.point_tables.specs.Meaning.Holds.{Holds}
use Rattle.point_tables.specs.Meaning.Decide.{holds, holds_says}
use Rattle.point_tables.specs.Meaning.Outcome.{Outcome, outcome}
use Rattle.replies.specs.declared.Reply.{Reply}
use Rattle.point_deferred.specs.Meaning.Moves.{pended, set_position_answer, set_position_of, remove_answer, remove_of}
use Rattle.point_deferred.specs.Meaning.Calls.{Call, call_of, tables_after, replies}
use Rattle.point_deferred.specs.Inner.Ready.{Ready, Workable}
use Rattle.point_deferred.proofs.laws.PendedLaws.{nums-long, reals-long, ints-long, cells-long, pended_ready}
use Rattle.point_deferred.proofs.laws.MovesLaws.{named, past-own, set_tests, by_zero}
use Rattle.point_deferred.proofs.laws.MovesKeeps.{call_keeps}
use Rattle.point_deferred.proofs.laws.Held.{with_pool}
use Rattle.point_deferred.specs.Inner.Held.{set_refusal, remove_refusal, held_answer, next_state, worked, held_of, held_after, held_replies}
use Rattle.replies.specs.Meaning.Replies.{reply}

-- ---- the answers past the check
module _ (t : Tables) (g : holds t ≡ true) where
  pub set_refusal_lem : (h : Handle) (at : Position) (k : ℕ) → set_position_answer t h at k ≡ set_refusal t.nums (record_on t h.slot).state h at k
  unfolding set_position_answer set_refusal
  set_refusal_lem h at k = rw g

  pub remove_refusal_lem : (h : Handle) (k : ℕ) → remove_answer t h k ≡ remove_refusal t.nums h k
  unfolding remove_answer remove_refusal
  remove_refusal_lem h k = rw g

  pub call-held : (c : Call) → call_of t c ≡ held_of t c
  unfolding call_of set_position_of remove_of held_of worked
  call-held c = go (eqb c.kind 0) refl
    where
      go : (b : Bool) → eqb c.kind 0 ≡ b → call_of t c ≡ held_of t c
      go true e = rw (e, set_refusal_lem c.handle c.at c.tracker)
      go false e = rw (e, remove_refusal_lem c.handle c.tracker)

-- ---- the pool does not matter
held-pool : (t : Tables) (pool : List (List ℕ)) (spots : List (List Float)) (c : Call) → held_of (with_pool t pool spots) c ≡ outcome (held_of t c).result (with_pool (held_of t c).after pool spots)
unfolding held_of worked pended
held-pool t pool spots c = go (eqb (held_answer t c) 0) refl
  where
    go : (b : Bool) → eqb (held_answer t c) 0 ≡ b → held_of (with_pool t pool spots) c ≡ outcome (held_of t c).result (with_pool (held_of t c).after pool spots)
    go true e = rw e
    go false e = rw e

-- ---- accepted: the object is the tracker's, so that its slot has one, and a new position is in the domain
three : (a : Bool) (state : State) (n : ℕ) → or_else a 6 (past-own n state) ≡ 0 → (a ≡ true) × (n ≡ 0)
three true state n e = (refl, by_zero (λ (m : ℕ). m ≡ 0 → n ≡ 0) n (or_else (not (is_removed state)) 1 0) (λ z q. z) (λ z q. q) e)
three false state n e = absurd (omega arith)

module _ (t : Tables) (c : Call) (e : held_answer t c ≡ 0) where
  passed : (own_refusal t.nums c.handle c.tracker ≡ 0) × (c.kind ≡ 0 → InDomain c.at)
  unfolding set_refusal remove_refusal
  passed = go (eqb c.kind 0) refl
    where
      go : (b : Bool) → eqb c.kind 0 ≡ b → (own_refusal t.nums c.handle c.tracker ≡ 0) × (c.kind ≡ 0 → InDomain c.at)
      go true q =
          let state = (record_on t c.handle.slot).state in
          let f = three (position_in_domain c.at) state (own_refusal t.nums c.handle c.tracker) (rw (q, set_tests t.nums state c.handle c.at c.tracker) at e) in
          (f.1, λ k. subst T (sym f.0) tt)
      go false q = (rw q at e, λ k. absurd (eqb-false c.kind 0 q k))

  pub held-own : Own t.nums c.handle c.tracker
  held-own = own-passed t.nums c.handle c.tracker passed.0

  pub held-accepted : Workable t c.handle.slot c.kind c.at
  held-accepted = let g = named t c.handle held-own.is_good_lem in record { inside = g.inside; occupied = g.occupied; within_domain = passed.1 }

-- ---- the outcome, refused and accepted
module _ (t : Tables) (c : Call) where
  pub held-refused : (held_answer t c ≡ 0 → ⊥) → held_of t c ≡ outcome (reply (held_answer t c) 0) t
  unfolding held_of
  held-refused n = rw (ne_eqb (held_answer t c) 0 n)

  pub held-done : held_answer t c ≡ 0 → held_of t c ≡ outcome (reply 0 (worked t c.handle.slot c.kind c.at).result) (worked t c.handle.slot c.kind c.at).after
  unfolding held_of
  held-done e = rw (eq-eqb (held_answer t c) 0 e)

  -- tables that are ready stay so
  pub held_ready : Ready t → Ready (held_of t c).after
  unfolding worked
  held_ready r =
      ⊎_elim
      (λ e.
      let w = held-accepted t c e in
      rw (held-done e) (pended_ready t c.handle.slot (next_state (size_of t) (record_on t c.handle.slot) c.kind c.at) r w.inside w.occupied))
      (λ n. rw (held-refused n) r)
      (d_eq (held_answer t c) 0)

-- the tables that a call writes keep their lengths
pub record SameLong (t u : Tables) : Type 0 where
  pub nums : length u.nums ≡ length t.nums
  pub reals : length u.reals ≡ length t.reals
  pub ints : length u.ints ≡ length t.ints
  pub cells : length u.cells ≡ length t.cells

pub held-long : (t : Tables) (c : Call) → Ready t → SameLong t (held_of t c).after
unfolding worked
held-long t c r =
    ⊎_elim
    (λ e.
    let w = held-accepted t c e in
    let s = c.handle.slot in
    let state = next_state (size_of t) (record_on t s) c.kind c.at in
    rw (held-done t c e) (record { nums = nums-long t s state; reals = reals-long t s state; ints = ints-long t s state; cells = cells-long t s state r w.inside w.occupied }))
    (λ n. rw (held-refused t c n) (record { nums = refl; reals = refl; ints = refl; cells = refl }))
    (d_eq (held_answer t c) 0)

-- ---- calls one after the other, on tables that hold a grid: as on those without the pool
module _ (pool : List (List ℕ)) (spots : List (List Float)) where
  -- one call
  pub call-worked : (t : Tables) → Holds (with_pool t pool spots) → (c : Call) → call_of (with_pool t pool spots) c ≡ outcome (held_of t c).result (with_pool (held_of t c).after pool spots)
  call-worked t g c = call-held (with_pool t pool spots) ((holds_says (with_pool t pool spots)).no g) c ∙ held-pool t pool spots c

  next-holds : (t : Tables) → Holds (with_pool t pool spots) → (c : Call) → Holds (with_pool (held_of t c).after pool spots)
  next-holds t g c = subst (λ (o : Outcome Reply). Holds o.after) (call-worked t g c) (call_keeps (with_pool t pool spots) c g)

  pub after-worked : (t : Tables) → Holds (with_pool t pool spots) → (cs : List Call) → tables_after (with_pool t pool spots) cs ≡ with_pool (held_after t cs) pool spots
  unfolding tables_after held_after
  after-worked t g [] = refl
  after-worked t g (c ∷ cs) = rw (call-worked t g c) (after-worked (held_of t c).after (next-holds t g c) cs)

  pub replies-worked : (t : Tables) → Holds (with_pool t pool spots) → (cs : List Call) → replies (with_pool t pool spots) cs ≡ held_replies t cs
  unfolding replies held_replies
  replies-worked t g [] = refl
  replies-worked t g (c ∷ cs) = rw (call-worked t g c) (ap (λ m. (held_of t c).result ∷ m) (replies-worked (held_of t c).after (next-holds t g c) cs))
