-- The tracker of a point: no deferred call changes it, and a call of another tracker is refused with 14 and alters no table. Assumes nothing.
use Rattle.basics.specs.Words.{ℕ, ◌<◌, ◌≤◌, ◌≡◌, refl, Bool, true, false, [], get_or, eqb, eqb-true}
use Rattle.basics.proofs.laws.Says.{says_t}
use Rattle.geometry.specs.Meaning.Domain.{position_in_domain}
use Rattle.geometry.specs.declared.Position.{Position}
use Rattle.slots.specs.declared.Handle.{Handle}
use Rattle.slots.specs.Meaning.Slot.{good}
use Rattle.point_records.specs.declared.State.{State}
use Rattle.point_records.specs.declared.Record.{Record}
use Rattle.point_records.specs.Meaning.Word.{tracker_at}
use Rattle.point_records.specs.Meaning.Trackers.{last_tracker}
use Rattle.point_records.specs.Meaning.Occupied.{InDomain}
use Rattle.point_records.proofs.laws.WordLaws.{tracker-same}
use Rattle.point_records.proofs.laws.OwnLaws.{own_refusal, own_14}
use Rattle.point_tables.specs.Meaning.Tables.{Tables, slots_of, record_on}
use Rattle.point_tables.specs.Meaning.Holds.{Holds}
use Rattle.point_tables.specs.Meaning.Decide.{holds_says}
use Rattle.point_tables.specs.Meaning.Outcome.{outcome}
use Rattle.point_deferred.specs.Meaning.Moves.{pended, set_position_answer, set_position_of, remove_answer, remove_of}
use Rattle.point_deferred.specs.Meaning.Calls.{Call, call_of}
use Rattle.point_deferred.specs.Inner.Ready.{Ready}
use Rattle.point_deferred.proofs.laws.PendedLaws.{kept, good-kept, gone-kept}
use Rattle.point_deferred.proofs.laws.MovesLaws.{set_tests}
use Rattle.replies.specs.Meaning.Replies.{reply}

-- a pending state changes no tracker
pub tracker-kept : (t : Tables) (s : ℕ) (state : State) → Ready t → s < slots_of t → (j : ℕ) → tracker_at (pended t s state).nums j ≡ tracker_at t.nums j
tracker-kept t s state ready l j =
    tracker-same (get_or (pended t s state).nums j []) (get_or t.nums j []) (kept t s state ready l (λ (r : Record). r.tracker) refl j)

-- and so nothing that the tests of a tracker look at
pub own-kept : (t : Tables) (s : ℕ) (state : State) → Ready t → s < slots_of t → (h : Handle) (k : ℕ) → own_refusal (pended t s state).nums h k ≡ own_refusal t.nums h k
own-kept t s state ready l h k =
    rw (good-kept t s state ready l h.slot h.version, gone-kept t s state ready l h.slot h.version, tracker-kept t s state ready l h.slot)

-- ---- 14: the handle is good, and its point is another tracker's, whatever the state of the point
module _ (t : Tables) (g : Holds t) (h : Handle) (k : ℕ) (fine : good t.nums h.slot h.version ≡ true) (known : k ≤ last_tracker) (other : tracker_at t.nums h.slot ≡ k → ⊥) where
  pub set-position_14 : (at : Position) → InDomain at → set_position_of t h at k ≡ outcome (reply 14 0) t
  unfolding set_position_of set_position_answer
  set-position_14 at d =
      rw ((holds_says t).no g, set_tests t.nums (record_on t h.slot).state h at k, (says_t (position_in_domain at)).no d, own_14 t.nums h k known fine other)

  pub remove_14 : remove_of t h k ≡ outcome (reply 14 0) t
  unfolding remove_of remove_answer
  remove_14 = rw ((holds_says t).no g, own_14 t.nums h k known fine other)

pub other_tracker-refused : (t : Tables) → Holds t → (c : Call) → good t.nums c.handle.slot c.handle.version ≡ true → c.tracker ≤ last_tracker → (tracker_at t.nums c.handle.slot ≡ c.tracker → ⊥) → (c.kind ≡ 0 → InDomain c.at) → call_of t c ≡ outcome (reply 14 0) t
unfolding call_of
other_tracker-refused t g c fine known other d = go (eqb c.kind 0) refl
  where
    go : (b : Bool) → eqb c.kind 0 ≡ b → call_of t c ≡ outcome (reply 14 0) t
    go true e = rw e (set-position_14 t g c.handle c.tracker fine known other c.at (d (eqb-true c.kind 0 e)))
    go false e = rw e (remove_14 t g c.handle c.tracker fine known other)
