-- The lists once everything is done: each entry names an object, under the key of its new cell and with its new position, and each object
-- that is left stands there once. Assumes nothing.
use Rattle.basics.specs.Words.{ℕ, zero, suc, ◌+◌, ◌*◌, ◌≤◌, ◌<◌, ◌≡◌, refl, sym, ◌∙◌, ap, Bool, true, false, not, [], ⊎_elim, length, get_or, eqb, ltb, arith}
use Rattle.basics.specs.Words.{eqb-true, eq-eqb, ne_eqb, ltb-true, ltb-false, lt-ltb, le-ltb}
use lib.Ieee.{nan}
use Rattle.basics.specs.Inner.Counting.{one}
use Rattle.basics.specs.Meaning.Refusals.{pick}
use Rattle.basics.proofs.laws.Says.{d_eq}
use Rattle.cells.specs.Meaning.Key.{key_of}
use Rattle.slots.specs.Meaning.Slot.{live, phase_at}
use Rattle.storage.specs.Meaning.Keyed.{All}
use Rattle.storage.specs.Inner.Keyed.{Sorted}
use Rattle.storage.specs.Meaning.Entries.{Entry, entry_key}
use Rattle.storage.proofs.laws.FilterLaws.{by_test, all_any, all_append}
use Rattle.storage.proofs.laws.KeyedLaws.{sorted_determined, all_under}
use Rattle.storage.proofs.laws.AppendLaws.{sorted-append_all, all_append_all}
use Rattle.point_records.specs.declared.State.{State}
use Rattle.point_records.specs.declared.State.TheVariants.{Unchanged, NewPos, Relocate, Removed}
use Rattle.point_records.specs.declared.Record.{Record}
use Rattle.point_records.specs.Meaning.Occupied.{Agrees}
use Rattle.point_records.specs.Meaning.States.{is_removed}
use Rattle.point_tables.specs.Meaning.Tables.{Tables, size_of, slots_of, record_on, entries_in, slot_of}
use Rattle.point_tables.specs.Meaning.Holds.{Holds}
use Rattle.point_tables.specs.Inner.Count.{is_live}
use Rattle.point_maintain.specs.Meaning.Walk.{entry_taking, entry_for, fate_by, fate, staying}
use Rattle.point_maintain.specs.Meaning.Maintain.{cell_keys}
use Rattle.point_maintain.proofs.laws.SettleForm.{settled_as}
use Rattle.point_maintain.proofs.laws.Settle.{among, picked}
use Rattle.point_maintain.specs.Inner.Settle.{settled_all}
use Rattle.point_maintain.proofs.laws.Totals.{total, times}
use Rattle.point_maintain.proofs.laws.TotalLaws.{total-append, total-same, total-append_all}
use Rattle.point_maintain.proofs.laws.KeptLaws.{kept_all, kept-total}
use Rattle.point_maintain.specs.Inner.Closed.{joined, kept_under, kept_entries, relocated_by, relocated_at, relocated_below, settled_entries}
use Rattle.point_maintain.proofs.laws.VisitLaws.{joined_all}
use Rattle.point_maintain.proofs.laws.SweepLaws.{list_under, list_named}
use Rattle.point_maintain.proofs.laws.RelocatedLaws.{joined_totals, total-times, none_either}
use Rattle.point_maintain.proofs.laws.CellOrderLaws.{joined-under, joined-sorted, keys_up, keys_distinct, no_list}
use Rattle.point_maintain.proofs.laws.SettledForm.{kept-sorted}
use Rattle.point_maintain.proofs.laws.RecordsAfterLaws.{all_slots, all_live, all_records}
use Rattle.point_maintain.proofs.laws.TallyLaws.{tally, Tally}
use Rattle.point_tables.proofs.laws.HoldsLaws.{entries_sorted}
use Rattle.point_tables.proofs.laws.ListedLaws.{Named}

-- ---- the pool is its lists, one after the other
module _ (t : Tables) (h : Holds t) where
  pub pool-joined : joined (list_under t) (cell_keys t) ≡ entries_in t
  pool-joined =
      sorted_determined entry_key (joined (list_under t) (cell_keys t)) (entries_in t)
      (joined-sorted entry_key (list_under t) (λ k. all_under entry_key k (entries_in t)) (cell_keys t) (keys_up t h)) (entries_sorted t h)
      (λ k. joined-under entry_key (list_under t) (λ j. all_under entry_key j (entries_in t)) k (cell_keys t) (keys_distinct t h) ∙ picked (among k (cell_keys t)) (λ e. sym (no_list t h k e)))

  -- what is kept: every entry that stays, once
  pub kept-entries-total : (m : Entry → ℕ) → total m (kept_entries t) ≡ total (λ e. total m (staying (fate t e))) (entries_in t)
  unfolding kept_entries
  kept-entries-total m =
      joined_totals m (λ e. total m (staying (fate t e))) (kept_under t) (list_under t) (λ k. unfold kept_under in kept-total (fate t) m (list_under t k)) (cell_keys t)
      ∙ ap (total (λ e. total m (staying (fate t e)))) pool-joined

-- ---- how often a slot is named
-- 1 if an object with that state stays in its list
abbrev stay : State → ℕ
stay Unchanged = 1
stay (NewPos p) = 1
stay (Relocate p c) = 0
stay Removed = 0

staying-times : (size : ℕ) (e : Entry) (i : ℕ) (st : State) → times slot_of i (staying (fate_by size e st)) ≡ pick (eqb (slot_of e) i) (stay st) 0
staying-times size e i Unchanged = by_test (eqb (slot_of e) i) (λ q. rw q) (λ q. rw q)
staying-times size e i (NewPos p) = by_test (eqb (slot_of e) i) (λ q. rw q) (λ q. rw q)
staying-times size e i (Relocate p c) = none_either (eqb (slot_of e) i)
staying-times size e i Removed = none_either (eqb (slot_of e) i)

staying-count : (t : Tables) (i : ℕ) (e : Entry) → times slot_of i (staying (fate t e)) ≡ pick (eqb (slot_of e) i) (stay (record_on t i).state) 0
staying-count t i e =
    staying-times (size_of t) e i (record_on t (slot_of e)).state
    ∙ by_test (eqb (slot_of e) i) (λ q. rw (q, eqb-true (slot_of e) i q)) (λ q. rw q)

relocated_times : (size j i : ℕ) (st : State) → times slot_of i (relocated_by size j st) ≡ pick (eqb j i) (length (relocated_by size j st)) 0
relocated_times size j i Unchanged = by_test (eqb j i) (λ q. rw q) (λ q. rw q)
relocated_times size j i (NewPos p) = by_test (eqb j i) (λ q. rw q) (λ q. rw q)
relocated_times size j i (Relocate p c) = by_test (eqb j i) (λ q. rw q) (λ q. rw q)
relocated_times size j i Removed = by_test (eqb j i) (λ q. rw q) (λ q. rw q)

module _ (t : Tables) where
  at_times : (j i : ℕ) → times slot_of i (relocated_at t j) ≡ pick (eqb j i) (length (relocated_at t j)) 0
  at_times j i = by_test (is_live t j) (λ e. rw e (relocated_times (size_of t) j i (record_on t j).state)) (λ e. rw e (none_either (eqb j i)))

  below-times : (i n : ℕ) → times slot_of i (relocated_below n t) ≡ pick (ltb i n) (length (relocated_at t i)) 0
  unfolding relocated_below
  below-times i zero = rw (le-ltb i 0 (omega arith))
  below-times i (suc n) =
      total-append (λ e. one (eqb (slot_of e) i)) (relocated_below n t) (relocated_at t n)
      ∙ rw (below-times i n, at_times n i)
      (⊎_elim
      (λ q. rw (q, le-ltb i i (omega arith), eq-eqb i i refl, lt-ltb i (suc i) (omega arith)) (omega arith))
      (λ q. rw (ne_eqb n i q)
      (by_test (ltb i n)
      (λ e. rw (e, lt-ltb i (suc n) (omega (arith, ltb-true i n e))) (omega arith))
      (λ e. rw (e, le-ltb i (suc n) (omega (arith, ltb-false i n e, q))) (omega arith))))
      (d_eq n i))

-- ---- each object that is left, once
left : (size i : ℕ) (b : Bool) (st : State) → one b * stay st + length (pick b (relocated_by size i st) []) ≡ one (pick b (not (is_removed st)) false)
left size i true Unchanged = omega arith
left size i true (NewPos p) = omega arith
left size i true (Relocate p c) = omega arith
left size i true Removed = omega arith
left size i false st = omega arith

module _ (t : Tables) (h : Holds t) where
  kept-times : (i : ℕ) → i < slots_of t → times slot_of i (kept_entries t) ≡ one (is_live t i) * stay (record_on t i).state
  kept-times i l =
      kept-entries-total t h (λ e. one (eqb (slot_of e) i))
      ∙ total-same (λ e. times slot_of i (staying (fate t e))) (λ e. pick (eqb (slot_of e) i) (stay (record_on t i).state) 0) (entries_in t) (all_any _ (staying-count t i) (entries_in t))
      ∙ total-times (λ e. eqb (slot_of e) i) (stay (record_on t i).state) (entries_in t)
      ∙ ap (λ (k : ℕ). k * stay (record_on t i).state) ((tally t h).once i l)

  pub after-once : (i : ℕ) → i < slots_of t → times slot_of i (settled_entries t) ≡ one (is_live (settled_all t) i)
  unfolding settled_entries
  after-once i l =
      total-append_all entry_key (λ e. one (eqb (slot_of e) i)) (kept_entries t) (relocated_below (slots_of t) t)
      ∙ rw (kept-times i l, below-times t i (slots_of t), lt-ltb i (slots_of t) l, all_live t h i l) (left (size_of t) i (is_live t i) (record_on t i).state)

  -- ---- where each stands
  -- the record of a live slot after, by its state before
  after_as : (i : ℕ) → i < slots_of t → phase_at t.nums i ≡ live → (st : State) → (record_on t i).state ≡ st → record_on (settled_all t) i ≡ settled_as (record_on t i) st
  after_as i l p st e = all_records t h i l ∙ rw (eq-eqb (phase_at t.nums i) live p) (ap (settled_as (record_on t i)) e)

  -- an entry of slot i at p, under the key of c, is right where the record after says so
  named_as : (e : Entry) → slot_of e < slots_of t → (r : Record) → record_on (settled_all t) (slot_of e) ≡ r → r.phase ≡ live → entry_key e ≡ key_of r.cell → get_or e.spot 0 nan ≡ r.position.x → get_or e.spot 1 nan ≡ r.position.y → Named (settled_all t) e
  named_as e l r q p k x y =
      record {
        inside = rw (all_slots t h) l;
        occupied = ap (λ (w : Record). w.phase) q ∙ p;
        key = k ∙ ap (λ (w : Record). key_of w.cell) (sym q);
        at_x = x ∙ ap (λ (w : Record). w.position.x) (sym q);
        at_y = y ∙ ap (λ (w : Record). w.position.y) (sym q);
      }

  named-stays : (e : Entry) → Named t e → All (Named (settled_all t)) (staying (fate t e))
  named-stays e n = go (record_on t (slot_of e)).state refl
    where
      go : (st : State) → (record_on t (slot_of e)).state ≡ st → All (Named (settled_all t)) (staying (fate_by (size_of t) e st))
      go Unchanged q = (named_as e n.inside (record_on t (slot_of e)) (after_as (slot_of e) n.inside n.occupied Unchanged q) n.occupied n.key n.at_x n.at_y, tt)
      go (NewPos p) q = (named_as (entry_taking e p) n.inside _ (after_as (slot_of e) n.inside n.occupied (NewPos p) q) n.occupied n.key refl refl, tt)
      go (Relocate p c) q = tt
      go Removed q = tt

  named_moves : (i : ℕ) → i < slots_of t → All (Named (settled_all t)) (relocated_at t i)
  named_moves i l = by_test (is_live t i) (λ e. rw e (go (eqb-true _ _ e) (record_on t i).state refl (h.records i l (eqb-true _ _ e)).occupied.agrees)) (λ e. rw e tt)
    where
      go : phase_at t.nums i ≡ live → (st : State) → (record_on t i).state ≡ st → Agrees (size_of t) (record_on t i).cell st → All (Named (settled_all t)) (relocated_by (size_of t) i st)
      go p Unchanged q a = tt
      go p (NewPos at) q a = tt
      go p (Relocate at c) q a = (named_as (entry_for (size_of t) i at) l _ (after_as i l p (Relocate at c) q) p (ap key_of a.1) refl refl, tt)
      go p Removed q a = tt

  moves_named : (n : ℕ) → n ≤ slots_of t → All (Named (settled_all t)) (relocated_below n t)
  unfolding relocated_below
  moves_named zero l = tt
  moves_named (suc n) l = all_append (Named (settled_all t)) (relocated_below n t) (relocated_at t n) (moves_named n (omega arith)) (named_moves n l)

  pub after-each : All (Named (settled_all t)) (settled_entries t)
  unfolding settled_entries kept_entries
  after-each =
      all_append_all entry_key (Named (settled_all t)) (joined (kept_under t) (cell_keys t)) (relocated_below (slots_of t) t)
      (joined_all (Named (settled_all t)) (kept_under t) (λ k. unfold kept_under in kept_all (fate t) (Named t) (Named (settled_all t)) named-stays (list_under t k) (list_named t h k)) (cell_keys t))
      (moves_named (slots_of t) (omega arith))

  pub after_tally : Tally (settled_all t) (settled_entries t)
  after_tally = record { each = after-each; once = λ i l. after-once i (rw (all_slots t h) at l) }

  pub after_sorted : Sorted entry_key (settled_entries t)
  unfolding settled_entries
  after_sorted = sorted-append_all entry_key (kept_entries t) (relocated_below (slots_of t) t) (kept-sorted t h)
