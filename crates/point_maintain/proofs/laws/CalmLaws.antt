-- A cell with no dirty mark has no object with something pending, so that to pass it over is to walk it. Assumes nothing.
use Rattle.basics.specs.Words.{ℕ, ◌<◌, ◌≡◌, refl, sym, ◌∙◌, ap, true, false, List, [], ◌∷◌, ◌⊎◌, inl, inr, ⊎_elim, eqb, arith, eqb-true, eq-eqb}
use Rattle.basics.proofs.laws.Says.{apart}
use Rattle.slots.specs.Meaning.Slot.{live, phase_at}
use Rattle.storage.specs.Meaning.Keyed.{All, under}
use Rattle.storage.specs.Meaning.Entries.{Entry, row_key, row_item}
use Rattle.storage.specs.Inner.Store.{Filled}
use Rattle.storage.proofs.laws.FilterLaws.{by_test}
use Rattle.storage.proofs.laws.PackedLaws.{all_first, place-filled}
use Rattle.point_records.specs.declared.State.{State}
use Rattle.point_records.specs.declared.State.TheVariants.{Unchanged, NewPos, Relocate, Removed}
use Rattle.point_records.specs.Meaning.Columns.{tag_of}
use Rattle.point_tables.specs.Meaning.Tables.{Tables, size_of, rows_of, slots_of, record_on, cell_rows, slot_of}
use Rattle.point_tables.specs.Meaning.Holds.{Pending, Holds}
use Rattle.point_tables.proofs.laws.HoldsLaws.{rows_in_cells}
use Rattle.point_maintain.specs.Meaning.Walk.{stays, fate_by, fate}
use Rattle.point_maintain.specs.Meaning.Maintain.{is_dirty}
use Rattle.point_maintain.proofs.laws.SettleLaws.{settled_calm}
use Rattle.point_maintain.proofs.laws.Settle.{settled_over}
use Rattle.point_maintain.proofs.laws.TallyLaws.{cell_key}

-- nothing is pending for slot i
abbrev pub Calm : Tables → ℕ → Type 0
Calm t i = (record_on t i).state ≡ Unchanged

pub calm_or_not : (st : State) → (st ≡ Unchanged) ⊎ (tag_of st ≡ 0 → ⊥)
calm_or_not Unchanged = inl refl
calm_or_not (NewPos p) = inr (λ e. omega arith)
calm_or_not (Relocate p c) = inr (λ e. omega arith)
calm_or_not Removed = inr (λ e. omega arith)

pub calm_fate : (t : Tables) (e : Entry) → Calm t (slot_of e) → fate t e ≡ stays e
calm_fate t e c = ap (fate_by (size_of t) e) c

-- ---- settling slots for which nothing is pending
pub calm_over : (t : Tables) (ss : List ℕ) → All (Calm t) ss → settled_over t ss ≡ t
unfolding settled_over
calm_over t [] a = refl
calm_over t (s ∷ ss) a = rw (settled_calm t s a.0) (calm_over t ss a.1)

-- ---- the mark of a cell
dirty-rows : (k : ℕ) (rows : List (List ℕ)) → Filled (under row_key k rows) → All (λ r. row_key r ≡ k → row_item r ≡ 1) rows → is_dirty rows k ≡ true
dirty-rows k [] f a = absurd f
dirty-rows k (r ∷ rows) f a =
    by_test (eqb (row_key r) k)
    (λ e. rw e (eq-eqb (row_item r) 1 (a.0 (eqb-true (row_key r) k e))))
    (λ e. rw e (dirty-rows k rows (rw e at f) a.1))

module _ (t : Tables) (h : Holds t) where
  -- the cell of an object has a row
  pub cell_row : (i : ℕ) → i < slots_of t → phase_at t.nums i ≡ live → Filled (under row_key (cell_key t i) (cell_rows t))
  cell_row i l p =
      let w = h.lists.every i l p in
      let r = h.packed.has_row w.0 w.1 in
      place-filled (rows_of t) t.cells (rows_in_cells t h) (cell_key t i) r.0 r.1 (r.2 ∙ (h.lists.each w.0 w.1).key ∙ ap (cell_key t) w.2)

  pending-dirty : (i : ℕ) → i < slots_of t → Pending t i → is_dirty (cell_rows t) (cell_key t i) ≡ true
  pending-dirty i l p = dirty-rows (cell_key t i) (cell_rows t) (cell_row i l p.occupied) (all_first (rows_of t) t.cells (rows_in_cells t h) _ (h.dirty i l p))

  pub clean_calm : (i : ℕ) → i < slots_of t → phase_at t.nums i ≡ live → is_dirty (cell_rows t) (cell_key t i) ≡ false → Calm t i
  clean_calm i l p e =
      ⊎_elim
      (λ c. c)
      (λ n. absurd (apart (sym e ∙ pending-dirty i l (record { occupied = p; changed = n }))))
      (calm_or_not (record_on t i).state)
