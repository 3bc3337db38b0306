-- After deferred calls and maintain the points are those that were there before and were not removed, with their data and trackers, each where
-- its last accepted call sent it, or where it was. Assumes nothing.
-- Here: the laws.
use Rattle.basics.specs.Words.{ℕ, ◌<◌, ◌≡◌, refl, sym, ap, ◌∙◌, true, false, ◌||◌, List, [], get_or, eqb-true, eq-eqb}
use Rattle.basics.specs.Meaning.Says.{Says}
use Rattle.slots.specs.declared.Handle.{Handle}
use Rattle.slots.specs.Meaning.Slot.{live, phase_at, good}
use Rattle.slots.proofs.laws.HandleLaws.{good_says}
use Rattle.point_records.specs.declared.State.{State}
use Rattle.point_records.specs.declared.State.TheVariants.{Unchanged}
use Rattle.point_records.specs.declared.Record.{Record}
use Rattle.point_records.specs.Meaning.Columns.{pending_of, target_of}
use Rattle.point_records.specs.Meaning.States.{is_removed}
use Rattle.point_records.specs.Meaning.Word.{tracker_at}
use Rattle.point_records.proofs.laws.WordLaws.{tracker-same}
use Rattle.point_tables.specs.Meaning.Tables.{Tables, slots_of, record_on}
use Rattle.point_tables.specs.Meaning.Holds.{Holds}
use Rattle.point_tables.specs.Inner.Count.{is_live}
use Rattle.point_tables.specs.Meaning.Outcome.{Outcome}
use Rattle.point_deferred.specs.Meaning.Calls.{Call, tables_after, replies}
use Rattle.point_deferred.proofs.laws.MovesLaws.{Named, named}
use Rattle.point_deferred.proofs.laws.MovesKeeps.{calls_keep}
use Rattle.point_maintain.specs.declared.Maintained.{Maintained}
use Rattle.point_maintain.specs.Meaning.Walk.{record_taking}
use Rattle.point_maintain.specs.Meaning.Maintain.{maintained, maintain_of}
use Rattle.point_maintain.proofs.laws.MaintainLaws.{maintain-done, maintain-accepted, maintain_keeps}
use Rattle.point_maintain.proofs.laws.MaintainedLaws.{maintained-slots, maintained-live, maintained_object, all_calm}
use Rattle.point_maintain.proofs.laws.RecordsAfterLaws.{live_parts}
use Rattle.whereabouts.specs.Meaning.Whereabouts.{removed_by, last_at}
use Rattle.whereabouts.proofs.laws.CallLaws.{Follows, calls_kept, calls_slots, calls_follow}
use Rattle.whereabouts.specs.Meaning.Stands.{next_maintain}

-- ---- the tables right after an accepted maintain
pub record Settled (t : Tables) : Type 0 where
  pub holds : Holds t
  pub calm : (i : ℕ) → i < slots_of t → phase_at t.nums i ≡ live → (record_on t i).state ≡ Unchanged

pub maintain-settles : (t : Tables) → (maintain_of t).result.answer ≡ 0 → Settled (maintain_of t).after
maintain-settles t e =
    let h = maintain-accepted t e in
    let d = ap (λ (o : Outcome Maintained). o.after) (maintain-done t h) in
    record { holds = maintain_keeps t h; calm = rw d (λ i l. all_calm t h i (rw (maintained-slots t h) at l)) }

module _ (t : Tables) (s : Settled t) (cs : List Call) where
  abbrev u : Tables
  u = tables_after t cs

  u_holds : Holds u
  u_holds = calls_keep t cs s.holds

  -- it is never refused
  pub next-accepted : (next_maintain t cs).result.answer ≡ 0
  next-accepted = ap (λ (o : Outcome Maintained). o.result.answer) (maintain-done u u_holds)

  is_after : (next_maintain t cs).after ≡ maintained u
  is_after = ap (λ (o : Outcome Maintained). o.after) (maintain-done u u_holds)

  pub next-holds : Holds (next_maintain t cs).after
  next-holds = maintain_keeps u u_holds

  -- an object of t, after the calls
  module _ (g : Handle) (n : Named t g) where
    abbrev f : Follows g t u (removed_by g cs (replies t cs)) (last_at g cs (replies t cs))
    f = calls_follow g t s.holds n cs

    quiet : (record_on t g.slot).state ≡ Unchanged
    quiet = s.calm g.slot n.inside n.occupied

    pub removed_is : is_removed (record_on u g.slot).state ≡ removed_by g cs (replies t cs)
    removed_is = f.removed ∙ ap (λ (st : State). is_removed st || removed_by g cs (replies t cs)) quiet

    pub headed_is : removed_by g cs (replies t cs) ≡ false → pending_of (record_on u g.slot).state (record_on u g.slot).position ≡ last_at g cs (replies t cs) (record_on t g.slot).position
    headed_is k = f.goes (removed_is ∙ k) ∙ ap (λ (st : State). last_at g cs (replies t cs) (pending_of st (record_on t g.slot).position)) quiet

    placed_is : removed_by g cs (replies t cs) ≡ false
        → record_on (maintained u) g.slot ≡ record_taking (record_on u g.slot) (pending_of (record_on u g.slot).state (record_on u g.slot).position) (target_of (record_on u g.slot).state (record_on u g.slot).cell)
    placed_is k = maintained_object u u_holds g.slot f.names.inside f.names.occupied (removed_is ∙ k)

  -- the handles that are good after are those that were, less the removed
  pub stands : (g : Handle) → Says (good (next_maintain t cs).after.nums g.slot g.version) ((good t.nums g.slot g.version ≡ true) × (removed_by g cs (replies t cs) ≡ false))
  stands g =
      record {
        yes = λ e.
            let i = g.slot in
            let w = (good_says (maintained u).nums i g.version).yes (rw is_after at e) in
            let l : i < slots_of u = rw (maintained-slots u u_holds) at w.0 in
            let p = live_parts (is_live u i) (is_removed (record_on u i).state) (sym (maintained-live u u_holds i l) ∙ eq-eqb (phase_at (maintained u).nums i) live w.1) in
            let q : phase_at u.nums i ≡ live = eqb-true (phase_at u.nums i) live p.0 in
            let o = maintained_object u u_holds i l q p.1 in
            let a = (good_says t.nums i g.version).no (
              rw (calls_slots t cs) at l,
              sym (calls_kept (λ r. r.phase) (λ r st. refl) t s.holds cs i) ∙ q,
              sym (calls_kept (λ r. r.version) (λ r st. refl) t s.holds cs i) ∙ sym (ap (λ (r : Record). r.version) o) ∙ w.2,
            ) in
            (a, sym (removed_is g (named t g a)) ∙ p.1);
        no = λ (a, k).
            let n = named t g a in
            let o = placed_is g n k in
            let m = (f g n).names in
            rw is_after ((good_says (maintained u).nums g.slot g.version).no (rw (maintained-slots u u_holds) m.inside, ap (λ (r : Record). r.phase) o ∙ m.occupied, ap (λ (r : Record). r.version) o ∙ m.version));
      }

  -- with the data and the tracker of before, and at the last accepted position
  pub stands_at_lem : (g : Handle) → good t.nums g.slot g.version ≡ true → removed_by g cs (replies t cs) ≡ false
      → ((record_on (next_maintain t cs).after g.slot).obj ≡ (record_on t g.slot).obj)
      × ((record_on (next_maintain t cs).after g.slot).position ≡ last_at g cs (replies t cs) (record_on t g.slot).position)
      × (tracker_at (next_maintain t cs).after.nums g.slot ≡ tracker_at t.nums g.slot)
  stands_at_lem g e k =
      let n = named t g e in
      let o = placed_is g n k in
      rw is_after (
        ap (λ (r : Record). r.obj) o ∙ calls_kept (λ r. r.obj) (λ r st. refl) t s.holds cs g.slot,
        ap (λ (r : Record). r.position) o ∙ headed_is g n k,
        tracker-same (get_or (maintained u).nums g.slot []) (get_or t.nums g.slot []) (ap (λ (r : Record). r.tracker) o ∙ calls_kept (λ r. r.tracker) (λ r st. refl) t s.holds cs g.slot),
      )
