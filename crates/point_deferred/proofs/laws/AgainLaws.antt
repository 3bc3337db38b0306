-- Deferred calls on an object that has something pending: a removal returns the data, also a second time, and a removed object cannot be
-- moved. Assumes nothing.
use Rattle.basics.specs.Words.{ℕ, ◌≡◌, refl, ap, ◌∙◌, true}
use Rattle.basics.proofs.laws.Says.{says_t}
use Rattle.geometry.specs.Meaning.Domain.{position_in_domain}
use Rattle.geometry.specs.declared.Position.{Position}
use Rattle.slots.specs.declared.Handle.{Handle}
use Rattle.point_records.specs.declared.State.{State}
use Rattle.point_records.specs.declared.State.TheVariants.{Removed}
use Rattle.point_records.specs.declared.Record.{Record}
use Rattle.point_records.specs.Meaning.Occupied.{InDomain, Agrees}
use Rattle.point_records.specs.Meaning.States.{is_removed, aimed}
use Rattle.point_records.proofs.laws.OccupiedLaws.{aimed-agrees}
use Rattle.point_records.proofs.laws.OwnLaws.{own_refusal, own-zero}
use Rattle.point_tables.specs.Meaning.Tables.{Tables, size_of, record_on}
use Rattle.point_tables.specs.Meaning.Holds.{Holds}
use Rattle.point_tables.specs.Meaning.Decide.{holds_says}
use Rattle.point_deferred.specs.Meaning.Moves.{pended, set_position_answer, set_position_of, remove_answer, remove_of}
use Rattle.point_deferred.proofs.laws.ReadyLaws.{holds_ready}
use Rattle.point_deferred.proofs.laws.PendedLaws.{record_same, kept}
use Rattle.point_deferred.proofs.laws.MovesLaws.{set_tests, Removable, set-accepted, remove-accepted, set-done, remove-done}
use Rattle.point_deferred.proofs.laws.MovesKeeps.{pended-holds}
use Rattle.point_deferred.proofs.laws.TrackerLaws.{own-kept}
use Rattle.replies.specs.Meaning.Replies.{reply}

-- ---- the handle stays good until maintain, and its object the tracker's, whatever is pending
module _ (t : Tables) (h : Handle) (k : ℕ) (state : State) (a : Removable t h k) (g : Agrees (size_of t) (record_on t h.slot).cell state) where
  abbrev later : Tables
  later = pended t h.slot state

  later_holds : Holds later
  later_holds = pended-holds t h.slot state a.held a.names.inside a.names.occupied g

  later_own : own_refusal later.nums h k ≡ 0
  later_own = own-kept t h.slot state (holds_ready t a.held) a.names.inside h k ∙ own-zero t.nums h k a.own

  later_removable : remove_answer later h k ≡ 0
  unfolding remove_answer
  later_removable = rw ((holds_says later).no later_holds) later_own

  later_removed : (remove_of later h k).result ≡ reply 0 (record_on t h.slot).obj
  later_removed =
      rw (remove-done later h k later_removable)
      (ap (reply 0) (kept t h.slot state (holds_ready t a.held) a.names.inside (λ (x : Record). x.obj) refl h.slot))

-- ---- after a removal
module _ (t : Tables) (h : Handle) (k : ℕ) (e : remove_answer t h k ≡ 0) where
  pub remove_again : (remove_of (remove_of t h k).after h k).result ≡ (remove_of t h k).result
  remove_again = rw (remove-done t h k e) (later_removed t h k Removed (remove-accepted t h k e) tt)

  pub removed-stays : (at : Position) → InDomain at → set_position_answer (remove_of t h k).after h at k ≡ 1
  unfolding set_position_answer
  removed-stays at d =
      let a = remove-accepted t h k e in
      let gone = later t h k Removed a tt in
      let q : is_removed (record_on gone h.slot).state ≡ true = ap (λ (x : Record). is_removed x.state) (record_same t h.slot Removed (holds_ready t a.held) a.names.inside) in
      rw (remove-done t h k e, (holds_says gone).no (later_holds t h k Removed a tt), set_tests gone.nums (record_on gone h.slot).state h at k, (says_t (position_in_domain at)).no d, later_own t h k Removed a tt, q)

-- ---- what can be moved can be removed, before the move and after it
module _ (t : Tables) (h : Handle) (at : Position) (k : ℕ) (e : set_position_answer t h at k ≡ 0) where
  removable : Removable t h k
  removable = let a = set-accepted t h at k e in record { held = a.held; own = a.own; names = a.names }

  pub moved_removable : remove_answer t h k ≡ 0
  unfolding remove_answer
  moved_removable = rw ((holds_says t).no removable.held) (own-zero t.nums h k removable.own)

  pub remove-moved : (remove_of (set_position_of t h at k).after h k).result ≡ reply 0 (record_on t h.slot).obj
  remove-moved =
      rw (set-done t h at k e)
      (later_removed t h k (aimed (size_of t) (record_on t h.slot).cell at) removable
      (aimed-agrees (size_of t) (record_on t h.slot).cell at (set-accepted t h at k e).within_domain))
