-- What maintain leaves: of each slot, and of the marks. Assumes nothing.
use Rattle.basics.specs.Words.{ℕ, ◌<◌, ◌≡◌, refl, sym, ◌∙◌, ap, false, not, eqb, eq-eqb}
use Rattle.basics.specs.Meaning.Refusals.{pick}
use Rattle.basics.proofs.laws.Says.{apart}
use Rattle.slots.specs.Meaning.Slot.{live, phase_at}
use Rattle.storage.specs.Meaning.Packed.{second}
use Rattle.point_records.specs.declared.State.{State}
use Rattle.point_records.specs.declared.State.TheVariants.{Unchanged, NewPos, Relocate, Removed}
use Rattle.point_records.specs.declared.Record.{Record}
use Rattle.point_records.specs.Meaning.Columns.{pending_of, target_of}
use Rattle.point_records.specs.Meaning.Word.{tracker_at}
use Rattle.point_records.specs.Meaning.States.{is_removed}
use Rattle.point_tables.specs.Meaning.Tables.{Tables, rows_of, slots_of, record_on}
use Rattle.point_tables.specs.Meaning.Holds.{Holds}
use Rattle.point_tables.specs.Inner.Count.{is_live}
use Rattle.point_maintain.specs.Meaning.Walk.{record_taking}
use Rattle.point_maintain.specs.Meaning.Maintain.{maintained}
use Rattle.point_maintain.proofs.laws.SettleForm.{settled_as, settled_record}
use Rattle.point_maintain.proofs.laws.SettledForm.{maintained_is}
use Rattle.point_maintain.proofs.laws.RecordsAfterLaws.{all_records, all_live}
use Rattle.point_maintain.proofs.laws.MaintainKeeps.{after-slots, after_record, after-tracker, after_calm, after-marks}

-- an object that is not removed: at its pending position if it had one, else where it was, and nothing is pending any more
pub settled_is : (r : Record) → is_removed r.state ≡ false → settled_record r ≡ record_taking r (pending_of r.state r.position) (target_of r.state r.cell)
settled_is r n = go r.state refl n
  where
    go : (st : State) → r.state ≡ st → is_removed st ≡ false → settled_as r st ≡ record_taking r (pending_of st r.position) (target_of st r.cell)
    go Unchanged e n = ap (λ (st : State). let w : Record = record { version = r.version; phase = r.phase; obj = r.obj; position = r.position; cell = r.cell; state = st; tracker = r.tracker } in w) e
    go (NewPos p) e n = refl
    go (Relocate p c) e n = refl
    go Removed e n = absurd (apart (sym n))

module _ (t : Tables) (h : Holds t) where
  pub maintained-slots : slots_of (maintained t) ≡ slots_of t
  maintained-slots = rw (maintained_is t h) (after-slots t h)

  -- ---- slot by slot
  module _ (i : ℕ) (l : i < slots_of t) where
    pub maintained_record : record_on (maintained t) i ≡ pick (is_live t i) (settled_record (record_on t i)) (record_on t i)
    maintained_record = rw (maintained_is t h) (after_record t h i ∙ all_records t h i l)

    -- the objects after are exactly those before that were not removed
    pub maintained-live : is_live (maintained t) i ≡ pick (is_live t i) (not (is_removed (record_on t i).state)) false
    maintained-live = rw (maintained_is t h) (ap (λ (r : Record). eqb r.phase live) (after_record t h i) ∙ all_live t h i l)

    -- each at its pending position, if it had one
    pub maintained_object : phase_at t.nums i ≡ live → is_removed (record_on t i).state ≡ false
        → record_on (maintained t) i ≡ record_taking (record_on t i) (pending_of (record_on t i).state (record_on t i).position) (target_of (record_on t i).state (record_on t i).cell)
    maintained_object p n = maintained_record ∙ rw (eq-eqb (phase_at t.nums i) live p) (settled_is (record_on t i) n)

  -- every slot has the tracker that it had, also one that is emptied
  pub maintained-tracker : (i : ℕ) → tracker_at (maintained t).nums i ≡ tracker_at t.nums i
  maintained-tracker i = rw (maintained_is t h) (after-tracker t h i)

  -- nothing is left to be done
  pub all_calm : (i : ℕ) → i < slots_of t → phase_at (maintained t).nums i ≡ live → (record_on (maintained t) i).state ≡ Unchanged
  all_calm i l = rw (maintained_is t h) (λ p. after_calm t h i (rw (after-slots t h) l) p)

  pub no_marks : (r : ℕ) → r < rows_of (maintained t) → second (maintained t).cells r ≡ 0
  no_marks = rw (maintained_is t h) (after-marks t h)
