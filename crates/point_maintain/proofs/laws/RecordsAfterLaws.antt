-- The records once every live slot is settled: each slot's record after, in terms of its record before. Assumes nothing.
use Rattle.basics.specs.Words.{ℕ, zero, suc, ◌≤◌, ◌<◌, ◌≡◌, refl, sym, ◌∙◌, ap, subst, Bool, true, false, not, ⊎_elim, eqb, arith, eqb-true}
use Rattle.basics.specs.Meaning.Refusals.{pick}
use Rattle.basics.proofs.laws.Says.{apart, untrue, d_lt}
use Rattle.slots.specs.Meaning.Slot.{live, last_version, phase_at, SlotsHold}
use Rattle.slots.proofs.laws.SlotLaws.{row-holds, emptied-holds}
use Rattle.storage.proofs.laws.FilterLaws.{by_test}
use Rattle.point_records.specs.declared.State.{State}
use Rattle.point_records.specs.declared.State.TheVariants.{Unchanged, NewPos, Relocate, Removed}
use Rattle.point_records.specs.declared.Record.{Record}
use Rattle.point_records.specs.Meaning.Columns.{nums_of}
use Rattle.point_records.specs.Meaning.Word.{last_word, word_in, tracker_in, word_at, tracker_at}
use Rattle.point_records.specs.Meaning.Occupied.{Agrees, Occupied}
use Rattle.point_records.specs.Meaning.States.{is_removed}
use Rattle.point_tables.specs.Meaning.Tables.{Tables, size_of, slots_of, record_on}
use Rattle.point_tables.specs.Meaning.Holds.{RecordHolds, Holds}
use Rattle.point_tables.specs.Inner.Count.{is_live}
use Rattle.point_maintain.specs.Meaning.Walk.{record_taking, settled_by, settled}
use Rattle.point_maintain.proofs.laws.SettleForm.{Rows, rows_at, record_in, rows_after, settled_as, settled_record, rows_record, rows-worded, rows-tracker}
use Rattle.point_maintain.specs.Inner.Settle.{Shaped}
use Rattle.point_maintain.proofs.laws.SettleLaws.{sized-shaped}
use Rattle.point_maintain.specs.Inner.Settle.{settled_in, settled_all}
use Rattle.point_maintain.proofs.laws.SettleAllLaws.{in_slots, in_shaped, in_head, in_rows-past, in_rows}

-- ---- a record settled
pub settled_phase : (r : Record) → eqb (settled_record r).phase live ≡ pick (is_removed r.state) false (eqb r.phase live)
settled_phase r = go r.state
  where
    go : (st : State) → eqb (settled_as r st).phase live ≡ pick (is_removed st) false (eqb r.phase live)
    go Unchanged = refl
    go (NewPos p) = refl
    go (Relocate p c) = refl
    go Removed = by_test (eqb r.version last_version) (λ e. rw e) (λ e. rw e)

-- an occupied record that is not removed is occupied still, and nothing is pending
pub settled-occupied : (size : ℕ) (r : Record) → is_removed r.state ≡ false → Occupied size r → Occupied size (settled_record r) × ((settled_record r).state ≡ Unchanged)
settled-occupied size r n o = go r.state refl n o.agrees
  where
    go : (st : State) → r.state ≡ st → is_removed st ≡ false → Agrees size r.cell st → Occupied size (settled_as r st) × ((settled_as r st).state ≡ Unchanged)
    go Unchanged e n a = (o, e)
    go (NewPos p) e n a = (record { within_domain = a.0; in_cell = a.1; agrees = tt }, refl)
    go (Relocate p c) e n a = (record { within_domain = a.0; in_cell = a.1; agrees = tt }, refl)
    go Removed e n a = absurd (apart (sym n))

-- ---- the slots hold
settled-holds : (t : Tables) (s : ℕ) → Shaped t → SlotsHold t.nums t.map → s < slots_of t → phase_at t.nums s ≡ live → SlotsHold (settled t s).nums (settled t s).map
unfolding settled
settled-holds t s shape h l p = go (record_on t s).state
  where
    go : (st : State) → SlotsHold (settled_by t s st).nums (settled_by t s st).map
    go Unchanged = h
    go (NewPos q) = row-holds t.nums t.map h s l (nums_of (record_taking (record_on t s) q (record_on t s).cell)) refl refl
    go (Relocate q c) = row-holds t.nums t.map h s l (nums_of (record_taking (record_on t s) q c)) refl refl
    go Removed = emptied-holds t.nums t.map h s l shape.of_map p

all_hold : (t : Tables) → Shaped t → SlotsHold t.nums t.map → (n : ℕ) → n ≤ slots_of t → SlotsHold (settled_in (is_live t) n t).nums (settled_in (is_live t) n t).map
unfolding settled_in
all_hold t shape h zero l = h
all_hold t shape h (suc n) l =
    let w = settled_in (is_live t) n t in
    by_test (is_live t n)
    (λ e.
    rw e
    (settled-holds w n (in_shaped (is_live t) t n shape) (all_hold t shape h n (omega arith)) (rw (in_slots (is_live t) t n) l)
    (ap (λ (r : Rows). (record_in r).phase) (in_rows-past (is_live t) t n n (omega arith)) ∙ eqb-true _ _ e)))
    (λ e. rw e (all_hold t shape h n (omega arith)))

-- ---- the tables with every live slot settled
-- the two tests of an object that is still live
pub live_parts : (a b : Bool) → pick a (not b) false ≡ true → (a ≡ true) × (b ≡ false)
live_parts true b e = (refl, untrue b e)
live_parts false b e = absurd (apart e)

module _ (t : Tables) (h : Holds t) where
  pub all_slots : slots_of (settled_all t) ≡ slots_of t
  unfolding settled_all
  all_slots = in_slots (is_live t) t (slots_of t)

  pub all_shaped : Shaped (settled_all t)
  unfolding settled_all
  all_shaped = in_shaped (is_live t) t (slots_of t) (sized-shaped t h.sized)

  pub all_size : size_of (settled_all t) ≡ size_of t
  unfolding settled_all
  all_size = in_head (is_live t) t (slots_of t) 0 (omega arith)

  pub slots_hold : SlotsHold (settled_all t).nums (settled_all t).map
  unfolding settled_all
  slots_hold = all_hold t (sized-shaped t h.sized) h.slots (slots_of t) (omega arith)

  module _ (i : ℕ) (l : i < slots_of t) where
    all_rows : rows_at (settled_all t) i ≡ pick (is_live t i) (rows_after (rows_at t i)) (rows_at t i)
    unfolding settled_all
    all_rows = in_rows (is_live t) t (sized-shaped t h.sized) (slots_of t) (omega arith) i l

    -- the record after: settled if it was an object's, and else as it was
    pub all_records : record_on (settled_all t) i ≡ pick (is_live t i) (settled_record (record_on t i)) (record_on t i)
    all_records = ap record_in all_rows ∙ by_test (is_live t i) (λ e. rw e (rows_record (rows_at t i))) (λ e. rw e)

    -- the objects after are those that were there and were not removed
    pub all_live : is_live (settled_all t) i ≡ pick (is_live t i) (not (is_removed (record_on t i).state)) false
    all_live =
        ap (λ (r : Record). eqb r.phase live) all_records
        ∙ by_test (is_live t i)
        (λ e. rw e (settled_phase (record_on t i) ∙ rw e (by_test (is_removed (record_on t i).state) (λ q. rw q) (λ q. rw q))))
        (λ e. rw e e)

    module _ (p : is_live (settled_all t) i ≡ true) where
      pub was-live : is_live t i ≡ true
      was-live = (live_parts (is_live t i) (is_removed (record_on t i).state) (sym all_live ∙ p)).0

      pub not_removed : is_removed (record_on t i).state ≡ false
      not_removed = (live_parts (is_live t i) (is_removed (record_on t i).state) (sym all_live ∙ p)).1

      pub record_after : record_on (settled_all t) i ≡ settled_record (record_on t i)
      record_after = all_records ∙ rw was-live

      held : RecordHolds t i
      held = h.records i l (eqb-true _ _ was-live)

      pub occupied-after : Occupied (size_of t) (record_on (settled_all t) i)
      occupied-after = rw record_after (settled-occupied (size_of t) (record_on t i) not_removed held.occupied).0

      pub calm_after : (record_on (settled_all t) i).state ≡ Unchanged
      calm_after = ap (λ (r : Record). r.state) record_after ∙ (settled-occupied (size_of t) (record_on t i) not_removed held.occupied).1

      pub word_after : word_at (settled_all t).nums i ≤ last_word
      word_after =
          let e : rows_at (settled_all t) i ≡ rows_after (rows_at t i) = all_rows ∙ rw was-live in
          subst (λ (w : Rows). word_in w.nums ≤ last_word) (sym e) (rows-worded (rows_at t i) held.worded)

  -- every slot has the tracker that it had
  pub all_tracker : (i : ℕ) → tracker_at (settled_all t).nums i ≡ tracker_at t.nums i
  all_tracker i = ⊎_elim inside outside (d_lt i (slots_of t))
    where
      inside : i < slots_of t → tracker_at (settled_all t).nums i ≡ tracker_at t.nums i
      inside l = ap (λ (w : Rows). tracker_in w.nums) (all_rows i l) ∙ by_test (is_live t i) (λ e. rw e (rows-tracker (rows_at t i))) (λ e. rw e)

      outside : (i < slots_of t → ⊥) → tracker_at (settled_all t).nums i ≡ tracker_at t.nums i
      outside l = unfold settled_all in ap (λ (w : Rows). tracker_in w.nums) (in_rows-past (is_live t) t (slots_of t) i (omega (arith, l)))
