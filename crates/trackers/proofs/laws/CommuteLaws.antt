-- Two deferred calls of different trackers, with any handles: neither changes what the other replies, and the tables are the same in either
-- order. An accepted call's slot has its tracker's number, so that two accepted calls have two slots. Assumes nothing.
use Rattle.basics.specs.Words.{ℕ, ◌≡◌, refl, sym, ap, ◌∙◌, false, not, List, ⊎_elim, get_or, eqb, arith, ne_eqb}
use Rattle.basics.proofs.laws.Says.{d_eq}
use Rattle.basics.specs.Meaning.Refusals.{or_else, pick}
use Rattle.geometry.specs.Meaning.Domain.{position_in_domain}
use Rattle.storage.proofs.laws.FilterLaws.{by_test}
use Rattle.point_records.specs.declared.State.{State}
use Rattle.point_records.specs.declared.Record.{Record}
use Rattle.point_records.specs.Meaning.Word.{tracker_at}
use Rattle.point_records.proofs.laws.OwnLaws.{own_refusal, own-passed, own-zero}
use Rattle.point_tables.specs.Meaning.Tables.{Tables, size_of, record_on}
use Rattle.point_tables.specs.Meaning.Holds.{Holds}
use Rattle.point_tables.specs.Meaning.Decide.{holds, holds_says}
use Rattle.point_tables.specs.Meaning.Outcome.{Outcome}
use Rattle.replies.specs.declared.Reply.{Reply}
use Rattle.point_deferred.specs.Meaning.Moves.{pended}
use Rattle.point_deferred.specs.Meaning.Calls.{Call, call_of}
use Rattle.point_deferred.specs.Inner.Ready.{Ready}
use Rattle.point_deferred.proofs.laws.ReadyLaws.{holds_ready}
use Rattle.point_deferred.proofs.laws.PendedLaws.{map-kept, record_other}
use Rattle.point_deferred.proofs.laws.TrackerLaws.{own-kept}
use Rattle.point_deferred.proofs.laws.MovesLaws.{past-own, set_tests}
use Rattle.point_deferred.proofs.laws.MovesKeeps.{call_keeps}
use Rattle.point_deferred.proofs.laws.AnswerLaws.{call_unheld, call-refused}
use Rattle.point_deferred.specs.Inner.Held.{set_refusal, remove_refusal, refusal_of, held_answer, next_state, returned, worked, held_of}
use Rattle.point_deferred.proofs.laws.HeldLaws.{call-held, held-own, held-accepted, held-refused, held-done}
use Rattle.trackers.proofs.laws.PendedCommuteLaws.{pended_commute}
use Rattle.replies.specs.Meaning.Replies.{reply}

-- ---- what a call looks at in the tables: the head of the map, what its tracker's tests say, and past them the record of its slot
abbrev own_of : Tables → Call → ℕ
own_of t c = own_refusal t.nums c.handle c.tracker

record Unseen (t u : Tables) (c : Call) : Type 0 where
  map : u.map ≡ t.map
  tests : own_of u c ≡ own_of t c
  object : own_of t c ≡ 0 → record_on u c.handle.slot ≡ record_on t c.handle.slot

refusal_by : (nums : List (List ℕ)) (x : State) (c : Call)
    → let n = own_refusal nums c.handle c.tracker in
    refusal_of nums x c ≡ pick (eqb c.kind 0) (or_else (position_in_domain c.at) 6 (past-own n x)) n
unfolding set_refusal remove_refusal
refusal_by nums x c = ap (λ (n : ℕ). pick (eqb c.kind 0) n (own_refusal nums c.handle c.tracker)) (set_tests nums x c.handle c.at c.tracker)

past_same : (n : ℕ) (x y : State) → (n ≡ 0 → y ≡ x) → past-own n y ≡ past-own n x
past_same n x y h = ⊎_elim (λ z. ap (past-own n) (h z)) (λ z. rw (ne_eqb n 0 z)) (d_eq n 0)

unseen_answer : (t u : Tables) (c : Call) → Unseen t u c → held_answer u c ≡ held_answer t c
unseen_answer t u c e =
    let x = (record_on t c.handle.slot).state in
    let y = (record_on u c.handle.slot).state in
    refusal_by u.nums y c
    ∙ ap (λ (n : ℕ). pick (eqb c.kind 0) (or_else (position_in_domain c.at) 6 (past-own n y)) n) e.tests
    ∙ ap (λ (m : ℕ). pick (eqb c.kind 0) (or_else (position_in_domain c.at) 6 m) (own_of t c)) (past_same (own_of t c) x y (λ z. ap (λ (r : Record). r.state) (e.object z)))
    ∙ sym (refusal_by t.nums x c)

accepted-own : (t : Tables) (c : Call) → held_answer t c ≡ 0 → own_of t c ≡ 0
accepted-own t c e = own-zero t.nums c.handle c.tracker (held-own t c e)

-- what is returned, and what becomes pending, is the same
module _ (t u : Tables) (c : Call) (e : Unseen t u c) where
  unseen_reply : (held_of u c).result ≡ (held_of t c).result
  unfolding worked
  unseen_reply =
      let a = unseen_answer t u c e in
      ⊎_elim
      (λ q. rw (held-done t c q, held-done u c (a ∙ q)) (ap (λ (r : Record). reply 0 (returned r c.kind)) (e.object (accepted-own t c q))))
      (λ n. rw (held-refused t c n, held-refused u c (λ q. n (sym a ∙ q))) (ap (λ (k : ℕ). reply k 0) a))
      (d_eq (held_answer t c) 0)

  unseen_refused : (held_answer t c ≡ 0 → ⊥) → (held_of u c).after ≡ u
  unseen_refused n = ap (λ (o : Outcome Reply). o.after) (held-refused u c (λ q. n (sym (unseen_answer t u c e) ∙ q)))

  unseen_done : held_answer t c ≡ 0 → (held_of u c).after ≡ pended u c.handle.slot (next_state (size_of t) (record_on t c.handle.slot) c.kind c.at)
  unfolding worked
  unseen_done q =
      ap (λ (o : Outcome Reply). o.after) (held-done u c (unseen_answer t u c e ∙ q))
      ∙ ap (λ (r : Record). pended u c.handle.slot (next_state (size_of u) r c.kind c.at)) (e.object (accepted-own t c q))
      ∙ ap (λ (m : List ℕ). pended u c.handle.slot (next_state (get_or m 0 0) (record_on t c.handle.slot) c.kind c.at)) e.map

unseen_self : (t : Tables) (c : Call) → Unseen t t c
unseen_self t c = record { map = refl; tests = refl; object = λ z. refl }

-- ---- a slot has one tracker: those of two accepted calls of two trackers differ
other_slot : (t : Tables) (c d : Call) → own_of t c ≡ 0 → own_of t d ≡ 0 → (c.tracker ≡ d.tracker → ⊥) → c.handle.slot ≡ d.handle.slot → ⊥
other_slot t c d p q n e =
    n (sym (own-passed t.nums c.handle c.tracker p).owner ∙ ap (tracker_at t.nums) e ∙ (own-passed t.nums d.handle d.tracker q).owner)

-- so that a call of another tracker changes nothing that a call looks at
unseen : (t : Tables) → Ready t → (c d : Call) → (c.tracker ≡ d.tracker → ⊥) → Unseen t (held_of t d).after c
unseen t ready c d n =
    ⊎_elim
    (λ q.
    let s = d.handle.slot in
    let x = next_state (size_of t) (record_on t s) d.kind d.at in
    let l = (held-accepted t d q).inside in
    rw (unseen_done t t d (unseen_self t d) q)
    (record {
      map = map-kept t s x;
      tests = own-kept t s x ready l c.handle c.tracker;
      object = λ p. record_other t s x ready l c.handle.slot (other_slot t c d p (accepted-own t d q) n);
    }))
    (λ m. rw (unseen_refused t t d (unseen_self t d) m) (unseen_self t c))
    (d_eq (held_answer t d) 0)

module _ (t : Tables) (ready : Ready t) (c d : Call) (n : c.tracker ≡ d.tracker → ⊥) where
  swapped : d.tracker ≡ c.tracker → ⊥
  swapped e = n (sym e)

  both-done : held_answer t c ≡ 0 → held_answer t d ≡ 0 → (held_of (held_of t c).after d).after ≡ (held_of (held_of t d).after c).after
  both-done p q =
      let r = c.handle.slot in
      let s = d.handle.slot in
      let x = next_state (size_of t) (record_on t r) c.kind c.at in
      let y = next_state (size_of t) (record_on t s) d.kind d.at in
      let a = held-accepted t c p in
      let b = held-accepted t d q in
      unseen_done t (held_of t c).after d (unseen t ready d c swapped) q
      ∙ ap (λ (u : Tables). pended u s y) (unseen_done t t c (unseen_self t c) p)
      ∙ pended_commute t ready r s (other_slot t d c (accepted-own t d q) (accepted-own t c p) swapped) x y a.inside a.occupied b.inside b.occupied
      ∙ ap (λ (u : Tables). pended u r x) (sym (unseen_done t t d (unseen_self t d) q))
      ∙ sym (unseen_done t (held_of t d).after c (unseen t ready c d n) p)

  held_commute : (held_of (held_of t c).after d).after ≡ (held_of (held_of t d).after c).after
  held_commute =
      ⊎_elim
      (λ p.
      ⊎_elim (both-done p)
      (λ m. unseen_refused t (held_of t c).after d (unseen t ready d c swapped) m ∙ ap (λ (u : Tables). (held_of u c).after) (sym (unseen_refused t t d (unseen_self t d) m)))
      (d_eq (held_answer t d) 0))
      (λ m. ap (λ (u : Tables). (held_of u d).after) (unseen_refused t t c (unseen_self t c) m) ∙ sym (unseen_refused t (held_of t d).after c (unseen t ready c d n) m))
      (d_eq (held_answer t c) 0)

-- ---- the calls, whatever the tables are: on those that hold no grid each is refused
module _ (t : Tables) (c d : Call) where
  unheld_same : holds t ≡ false → (call_of t c).after ≡ t
  unheld_same e = (call-refused t c (λ q. omega (arith, sym q ∙ (call_unheld t c).yes (ap not e)))).0

  two-held : Holds t → call_of (call_of t c).after d ≡ held_of (held_of t c).after d
  two-held h =
      call-held (call_of t c).after ((holds_says (call_of t c).after).no (call_keeps t c h)) d
      ∙ ap (λ (o : Outcome Reply). held_of o.after d) (call-held t ((holds_says t).no h) c)

module _ (t : Tables) (c d : Call) (n : c.tracker ≡ d.tracker → ⊥) where
  pub reply-same : (call_of (call_of t d).after c).result ≡ (call_of t c).result
  reply-same =
      by_test (holds t)
      (λ e.
      let h = (holds_says t).yes e in
      rw (two-held t d c h, call-held t e c) (unseen_reply t (held_of t d).after c (unseen t (holds_ready t h) c d n)))
      (λ e. rw (unheld_same t d c e))

  pub calls_commute : (call_of (call_of t c).after d).after ≡ (call_of (call_of t d).after c).after
  calls_commute =
      by_test (holds t)
      (λ e.
      let h = (holds_says t).yes e in
      rw (two-held t c d h, two-held t d c h) (held_commute t (holds_ready t h) c d n))
      (λ e. rw (unheld_same t d c e, unheld_same t c d e, unheld_same t d c e))
