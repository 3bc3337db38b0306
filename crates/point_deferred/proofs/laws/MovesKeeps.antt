-- The deferred calls keep a grid: tables that held one hold one after any call, and after any row of calls. Assumes nothing.
use Rattle.basics.specs.Words.{ℕ, ◌<◌, ◌≤◌, ◌≡◌, refl, sym, ap, ◌∙◌, subst, Bool, true, false, List, [], ◌∷◌, ⊎_elim, eqb, arith}
use Rattle.basics.proofs.laws.Says.{d_eq, d_lt}
use Rattle.basics.specs.Meaning.Refusals.{pick}
use Rattle.geometry.specs.declared.Position.{Position}
use Rattle.cells.specs.Meaning.Key.{key_of}
use Rattle.slots.specs.declared.Handle.{Handle}
use Rattle.slots.specs.Meaning.Slot.{live, phase_at, SlotsHold}
use Rattle.slots.proofs.laws.SlotLaws.{row-holds}
use Rattle.storage.specs.Meaning.Packed.{first, second, Packed}
use Rattle.point_records.specs.declared.State.{State}
use Rattle.point_records.specs.declared.State.TheVariants.{Removed}
use Rattle.point_records.specs.declared.Record.{Record}
use Rattle.point_records.specs.Meaning.Columns.{tag_of, nums_of}
use Rattle.point_records.specs.Meaning.Word.{last_word, word_at}
use Rattle.point_records.specs.Meaning.Occupied.{Agrees, Occupied}
use Rattle.point_records.proofs.laws.OccupiedLaws.{aimed-agrees}
use Rattle.point_records.specs.Meaning.States.{aimed, with_state}
use Rattle.point_tables.specs.Meaning.Tables.{Tables, size_of, used_of, rows_of, slots_of, record_on}
use Rattle.point_tables.specs.Meaning.Holds.{ListsHold, Pending, Holds}
use Rattle.point_deferred.specs.Meaning.Moves.{pended, set_position_answer, set_position_of, remove_answer, remove_of}
use Rattle.point_deferred.specs.Meaning.Calls.{Call, call_of, tables_after}
use Rattle.point_deferred.specs.Inner.Ready.{Ready}
use Rattle.point_deferred.proofs.laws.ReadyLaws.{holds_ready}
use Rattle.point_deferred.proofs.laws.PendedLaws.{nums-long, reals-long, ints-long, record_same, record_other, kept, word_same, nums_other, cells-long}
use Rattle.point_deferred.proofs.laws.PendedLaws.{key-kept, mark_set, mark-kept}
use Rattle.point_deferred.proofs.laws.MovesLaws.{set-accepted, remove-accepted, set-refused, set-done, remove-refused, remove-done}

module _ (t : Tables) (s : ℕ) (state : State) (h : Holds t) (l : s < slots_of t) (p : phase_at t.nums s ≡ live) (a : Agrees (size_of t) (record_on t s).cell state) where
  ready : Ready t
  ready = holds_ready t h

  abbrev u : Tables
  u = pended t s state

  phase_kept : (j : ℕ) → phase_at u.nums j ≡ phase_at t.nums j
  phase_kept = kept t s state ready l (λ r. r.phase) refl

  cell-kept : (j : ℕ) → (record_on u j).cell ≡ (record_on t j).cell
  cell-kept = kept t s state ready l (λ r. r.cell) refl

  position-kept : (j : ℕ) → (record_on u j).position ≡ (record_on t j).position
  position-kept = kept t s state ready l (λ r. r.position) refl

  -- ---- the slots and the records
  slots-after : SlotsHold u.nums t.map
  unfolding pended
  slots-after = row-holds t.nums t.map h.slots s l (nums_of (with_state (record_on t s) state)) refl refl

  occupied-after : Occupied (size_of t) (record_on u s)
  occupied-after =
      let o = (h.records s l p).occupied in
      rw (record_same t s state ready l) (record { within_domain = o.within_domain; in_cell = o.in_cell; agrees = a })

  record_after : (j : ℕ) → j < slots_of t → phase_at u.nums j ≡ live → (word_at u.nums j ≤ last_word) × Occupied (size_of t) (record_on u j)
  record_after j m q =
      ⊎_elim
      (λ e. subst (λ (k : ℕ). (word_at u.nums k ≤ last_word) × Occupied (size_of t) (record_on u k)) (sym e) (word_same t s state ready l, occupied-after))
      (λ n.
      let w = h.records j m (sym (phase_kept j) ∙ q) in
      (rw (nums_other t s state ready l j n) w.worded, rw (record_other t s state ready l j n) w.occupied))
      (d_eq j s)

  -- ---- the lists
  lists-after : ListsHold u
  unfolding pended
  lists-after =
      record {
        each = λ j m.
            let e = h.lists.each j m in
            let o = second t.pool j in
            record {
              inside = rw (nums-long t s state) e.inside;
              occupied = phase_kept o ∙ e.occupied;
              key = e.key ∙ ap key_of (sym (cell-kept o));
              at_x = e.at_x ∙ ap (λ (q : Position). q.x) (sym (position-kept o));
              at_y = e.at_y ∙ ap (λ (q : Position). q.y) (sym (position-kept o));
            };
        once = h.lists.once;
        every = λ j m q. h.lists.every j (rw (nums-long t s state) at m) (sym (phase_kept j) ∙ q);
      }

  -- ---- the rows of the cells
  packed-after : Packed (used_of t) (rows_of t) t.pool u.cells
  packed-after =
      let f = key-kept t s state ready l p in
      record {
        ordered = h.packed.ordered;
        ascending = λ i j x y. rw (f i, f j) (h.packed.ascending i j x y);
        has_row = λ j x. let o = h.packed.has_row j x in (o.0, o.1, f o.0 ∙ o.2);
        has_list = λ r x. let o = h.packed.has_list r x in (o.0, o.1, o.2 ∙ sym (f r));
        marks = λ r x. mark-kept t s state ready l p (λ k. k ≤ 1) (omega arith) r (h.packed.marks r x);
      }

  -- two rows with one key are one
  one-row : (i j : ℕ) → i < rows_of t → j < rows_of t → first t.cells i ≡ first t.cells j → i ≡ j
  one-row i j x y e =
      ⊎_elim (λ q. absurd (omega (arith, h.packed.ascending i j y q)))
      (λ q. ⊎_elim (λ w. absurd (omega (arith, h.packed.ascending j i x w))) (λ w. omega (arith, q, w)) (d_lt j i))
      (d_lt i j)

  dirty-after : (j : ℕ) → j < slots_of t → Pending u j → (r : ℕ) → r < rows_of t → first t.cells r ≡ key_of (record_on t j).cell → second u.cells r ≡ 1
  dirty-after j m w r y k =
      ⊎_elim
      (λ q.
      let o = ready.has_row s l p in
      let z : r ≡ o.0 = one-row r o.0 y o.1 (k ∙ ap (λ (i : ℕ). key_of (record_on t i).cell) q ∙ sym o.2) in
      ap (second u.cells) z ∙ mark_set t s state ready l p)
      (λ n.
      mark-kept t s state ready l p (λ i. i ≡ 1) refl r
      (h.dirty j m (record { occupied = sym (phase_kept j) ∙ w.occupied; changed = λ e. w.changed (ap (λ (x : Record). tag_of x.state) (record_other t s state ready l j n) ∙ e) }) r y k))
      (d_eq j s)

  -- ---- the whole
  pub pended-holds : Holds u
  unfolding pended
  pended-holds =
      record {
        sized = record {
          some = rw (nums-long t s state) h.sized.some;
          most = rw (nums-long t s state) h.sized.most;
          of_reals = reals-long t s state ∙ h.sized.of_reals ∙ sym (nums-long t s state);
          of_ints = ints-long t s state ∙ h.sized.of_ints ∙ sym (nums-long t s state);
          of_map = rw (nums-long t s state) h.sized.of_map;
          of_pool = h.sized.of_pool ∙ sym (nums-long t s state);
          of_spots = h.sized.of_spots ∙ sym (nums-long t s state);
          of_cells = cells-long t s state ready l p ∙ h.sized.of_cells ∙ sym (nums-long t s state);
        };
        counted = record { size = h.counted.size; used-most = rw (nums-long t s state) h.counted.used-most; rows-most = rw (nums-long t s state) h.counted.rows-most };
        slots = slots-after;
        records = λ j m q. let w = record_after j (rw (nums-long t s state) at m) q in record { worded = w.0; occupied = w.1 };
        packed = packed-after;
        lists = lists-after;
        dirty = λ j m w r y k. dirty-after j (rw (nums-long t s state) at m) w r y (sym (key-kept t s state ready l p r) ∙ k ∙ ap key_of (cell-kept j));
      }

-- ---- an accepted call found a grid, and leaves one
pub set-position-accepted : (t : Tables) (h : Handle) (at : Position) (k : ℕ) → set_position_answer t h at k ≡ 0 → Holds (set_position_of t h at k).after
set-position-accepted t h at k e =
    let a = set-accepted t h at k e in
    rw (set-done t h at k e) (pended-holds t h.slot (aimed (size_of t) (record_on t h.slot).cell at) a.held a.names.inside a.names.occupied (aimed-agrees (size_of t) (record_on t h.slot).cell at a.within_domain))

pub remove-accepted-holds : (t : Tables) (h : Handle) (k : ℕ) → remove_answer t h k ≡ 0 → Holds (remove_of t h k).after
remove-accepted-holds t h k e =
    let a = remove-accepted t h k e in
    rw (remove-done t h k e) (pended-holds t h.slot Removed a.held a.names.inside a.names.occupied tt)

-- ---- whatever the answer, tables that hold a grid are followed by tables that do
pub set-position_keeps : (t : Tables) (h : Handle) (at : Position) (k : ℕ) → Holds t → Holds (set_position_of t h at k).after
set-position_keeps t h at k g = ⊎_elim (set-position-accepted t h at k) (λ n. rw (set-refused t h at k n) g) (d_eq (set_position_answer t h at k) 0)

pub remove_keeps : (t : Tables) (h : Handle) (k : ℕ) → Holds t → Holds (remove_of t h k).after
remove_keeps t h k g = ⊎_elim (remove-accepted-holds t h k) (λ n. rw (remove-refused t h k n) g) (d_eq (remove_answer t h k) 0)

pub call_keeps : (t : Tables) (c : Call) → Holds t → Holds (call_of t c).after
unfolding call_of
call_keeps t c g = go (eqb c.kind 0)
  where
    go : (b : Bool) → Holds (pick b (set_position_of t c.handle c.at c.tracker) (remove_of t c.handle c.tracker)).after
    go true = set-position_keeps t c.handle c.at c.tracker g
    go false = remove_keeps t c.handle c.tracker g

pub calls_keep : (t : Tables) (cs : List Call) → Holds t → Holds (tables_after t cs)
unfolding tables_after
calls_keep t [] g = g
calls_keep t (c ∷ cs) g = calls_keep (call_of t c).after cs (call_keeps t c g)
