-- What an accepted `set_position` adds to the first count of the next maintain, which takes its bits in any case. Assumes nothing.
use Rattle.basics.specs.Words.{ℕ, zero, suc, ◌+◌, ◌≤◌, ◌<◌, ◌≡◌, refl, sym, ap, ap₂, ◌∙◌, subst, Bool, false, [], ⊎_elim, get_or, eqb, eq-eqb, arith}
use lib.Ieee.{nan}
use Rattle.basics.proofs.laws.Says.{d_eq}
use Rattle.basics.specs.Meaning.Says.{said}
use Rattle.basics.specs.Meaning.Refusals.{pick}
use Rattle.geometry.specs.declared.Position.{Position}
use Rattle.cells.specs.declared.Cell.{Cell}
use Rattle.cells.specs.Meaning.CellRule.{cell_at}
use Rattle.slots.specs.declared.Handle.{Handle}
use Rattle.slots.specs.Meaning.Slot.{live, phase_at}
use Rattle.storage.specs.Meaning.Packed.{second}
use Rattle.storage.proofs.laws.FilterLaws.{by_test}
use Rattle.point_records.specs.declared.State.{State}
use Rattle.point_records.specs.declared.Record.{Record}
use Rattle.point_records.specs.Meaning.Columns.{pending_of}
use Rattle.point_records.specs.Inner.Decide.{d_cell}
use Rattle.point_records.specs.Meaning.States.{is_removed, aimed, with_state}
use Rattle.point_tables.specs.Meaning.Tables.{Tables, size_of, used_of, slots_of, record_on}
use Rattle.point_tables.specs.Meaning.Holds.{Holds}
use Rattle.point_tables.specs.Meaning.Outcome.{Outcome}
use Rattle.replies.specs.declared.Reply.{Reply}
use Rattle.point_deferred.specs.Meaning.Moves.{pended, set_position_answer, set_position_of}
use Rattle.point_deferred.proofs.laws.ReadyLaws.{holds_ready}
use Rattle.point_deferred.proofs.laws.PendedLaws.{nums-long, record_same, record_other}
use Rattle.point_deferred.proofs.laws.MovesLaws.{Settable, set-accepted, set-done}
use Rattle.point_deferred.proofs.laws.AnswerLaws.{set-answer_is}
use Rattle.point_deferred.proofs.laws.MovesKeeps.{set-position_keeps}
use Rattle.point_maintain.specs.declared.Maintained.{Maintained}
use Rattle.point_maintain.specs.Meaning.Moved.{differs, moves_from, has_moved}
use Rattle.point_maintain.specs.Meaning.Maintain.{count_records, maintain_of}
use Rattle.point_maintain.proofs.laws.RelocatedLaws.{none_either}
use Rattle.point_maintain.proofs.laws.MaintainLaws.{maintain-done, maintain_keeps}
use Rattle.point_maintain.proofs.laws.MaintainedLaws.{maintained-slots, maintained_object}
use Rattle.whereabouts.proofs.laws.CallLaws.{aimed_goes}

-- ---- a count of records, where that of slot s is another which does not pass
module _ (test : Record → Bool) (t u : Tables) (s : ℕ) (others : (j : ℕ) → (j ≡ s → ⊥) → record_on u j ≡ record_on t j) where
  before : (n : ℕ) → n ≤ s → count_records test u n ≡ count_records test t n
  before zero l = refl
  before (suc n) l =
      ap₂ {C = ℕ} (λ (m : ℕ) (r : Record). m + pick (eqb r.phase live) (pick (test r) 1 0) 0) (before n (omega arith)) (others n (λ e. omega arith))

  module _ (p : phase_at t.nums s ≡ live) (fails : test (record_on u s) ≡ false) where
    abbrev Less : ℕ → Type 0
    Less n = count_records test u n + pick (test (record_on t s)) 1 0 ≡ count_records test t n

    at_it : Less (suc s)
    at_it = rw (fails, eq-eqb (phase_at t.nums s) live p) (omega (arith, before s (omega arith), none_either (eqb (phase_at u.nums s) live)))

    less : (n : ℕ) → s < n → Less n
    less zero l = absurd (omega arith)
    less (suc n) l =
        ⊎_elim
        (λ e. subst (λ (k : ℕ). Less (suc k)) (sym e) at_it)
        (λ k.
        let same = ap {B = ℕ} (λ (r : Record). pick (eqb r.phase live) (pick (test r) 1 0) 0) (others n k) in
        omega (arith, less n (omega arith), same))
        (d_eq n s)

-- ---- the state that `set_position` gives
aimed_moves : (size : ℕ) (c : Cell) (p q : Position) → moves_from q (aimed size c p) ≡ differs p q
unfolding aimed
aimed_moves size c p q = by_test (said (d_cell (cell_at size p) c)) (λ e. rw e) (λ e. rw e)

module _ (t : Tables) (g : Handle) (p : Position) (k : ℕ) (accepted : (set_position_of t g p k).result.answer ≡ 0) where
  abbrev sent : Tables
  sent = (set_position_of t g p k).after

  abbrev next : Tables
  next = (maintain_of sent).after

  abbrev s : ℕ
  s = g.slot

  abbrev state : State
  state = aimed (size_of t) (record_on t s).cell p

  answered : set_position_answer t g p k ≡ 0
  answered = sym (set-answer_is t g p k) ∙ accepted

  passed : Settable t g p k
  passed = set-accepted t g p k answered

  sent_is : sent ≡ pended t s state
  sent_is = ap (λ (o : Outcome Reply). o.after) (set-done t g p k answered)

  sent_holds : Holds sent
  sent_holds = set-position_keeps t g p k passed.held

  sent_slots : slots_of sent ≡ slots_of t
  sent_slots = ap slots_of sent_is ∙ nums-long t s state

  sent_record : record_on sent s ≡ with_state (record_on t s) state
  sent_record = ap (λ (u : Tables). record_on u s) sent_is ∙ record_same t s state (holds_ready t passed.held) passed.names.inside

  sent_others : (j : ℕ) → (j ≡ s → ⊥) → record_on sent j ≡ record_on t j
  sent_others j n = ap (λ (u : Tables). record_on u j) sent_is ∙ record_other t s state (holds_ready t passed.held) passed.names.inside j n

  -- a position that is numerically the recorded one: the point is not counted, and what it had added before is added no more
  pub still_not_counted : differs p (record_on t s).position ≡ false
      → (maintain_of sent).result.moved + pick (has_moved (record_on t s)) 1 0 ≡ (maintain_of t).result.moved
  still_not_counted e =
      let fails : has_moved (record_on sent s) ≡ false = ap has_moved sent_record ∙ aimed_moves (size_of t) (record_on t s).cell p (record_on t s).position ∙ e in
      let of-sent = ap (λ (o : Outcome Maintained). o.result.moved) (maintain-done sent sent_holds) ∙ ap (count_records has_moved sent) sent_slots in
      let of-t = ap (λ (o : Outcome Maintained). o.result.moved) (maintain-done t passed.held) in
      omega (arith, of-sent, of-t, less has_moved t sent s sent_others passed.names.occupied fails (slots_of t) passed.names.inside)

  -- the record after maintain, of an object still, has the position that was sent, equal as data and so by bits, counted or not
  new_record_lem : ((record_on next s).phase ≡ live) × ((record_on next s).position ≡ p)
  new_record_lem =
      let w = aimed_goes (size_of t) (record_on t s).cell p (record_on t s).position in
      let occupied = ap (λ (r : Record). r.phase) sent_record ∙ passed.names.occupied in
      let e = ap (λ (o : Outcome Maintained). record_on o.after s) (maintain-done sent sent_holds)
      ∙ maintained_object sent sent_holds s (rw sent_slots passed.names.inside) occupied (ap (λ (r : Record). is_removed r.state) sent_record ∙ w.0) in
      (ap (λ (r : Record). r.phase) e ∙ occupied, ap (λ (r : Record). r.position) e ∙ ap (λ (r : Record). pending_of r.state r.position) sent_record ∙ w.1)

  next-slots : slots_of next ≡ slots_of t
  next-slots = ap (λ (o : Outcome Maintained). slots_of o.after) (maintain-done sent sent_holds) ∙ maintained-slots sent sent_holds ∙ sent_slots

  -- and so has its entry
  pub takes_the_new_bits : ((record_on next s).position ≡ p)
      × ((j : ℕ) × (j < used_of next) × (second next.pool j ≡ s) × (get_or (get_or next.spots j []) 0 nan ≡ p.x) × (get_or (get_or next.spots j []) 1 nan ≡ p.y))
  takes_the_new_bits =
      let lists = (maintain_keeps sent sent_holds).lists in
      let (j, l, e) = lists.every s (rw next-slots passed.names.inside) new_record_lem.0 in
      let at : (record_on next (second next.pool j)).position ≡ p = ap (λ (i : ℕ). (record_on next i).position) e ∙ new_record_lem.1 in
      (new_record_lem.1, (j, l, e, (lists.each j l).at_x ∙ ap (λ (q : Position). q.x) at, (lists.each j l).at_y ∙ ap (λ (q : Position). q.y) at))
