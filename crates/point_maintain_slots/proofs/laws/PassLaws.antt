-- Laws of the pass: the slot at hand is as it was at entry, and its part of the pass is one more of the whole. Assumes nothing.
use Rattle.basics.specs.Words.{ℕ, zero, suc, ◌+◌, ◌≤◌, ◌<◌, ◌≡◌, refl, sym, ap, Bool, [], ◌∷◌, ◌++◌, map, map-append, ⊎_elim, length, length-append, length-map}
use Rattle.basics.specs.Words.{eqb, arith, eqb-true}
use Rattle.basics.specs.Meaning.Refusals.{pick}
use Rattle.basics.proofs.laws.Says.{d_eq}
use Rattle.cells.specs.declared.Cell.{Cell}
use Rattle.cells.specs.Meaning.Key.{key_of}
use Rattle.slots.specs.Meaning.Slot.{live}
use Rattle.storage.specs.Meaning.Entries.{row_of}
use Rattle.storage.proofs.laws.FilterLaws.{by_test}
use Rattle.point_records.specs.declared.State.{State}
use Rattle.point_records.specs.declared.State.TheVariants.{Unchanged, NewPos, Relocate, Removed}
use Rattle.point_records.specs.Meaning.Occupied.{Agrees}
use Rattle.point_tables.specs.Meaning.Tables.{Tables, size_of, slots_of, record_on}
use Rattle.point_tables.specs.Inner.Count.{is_live}
use Rattle.point_maintain.specs.Meaning.Walk.{settled}
use Rattle.point_maintain.specs.Inner.Settle.{settled_in}
use Rattle.point_maintain.proofs.laws.SettleForm.{Rows, rows_at, record_in}
use Rattle.point_maintain.specs.Inner.Settle.{Shaped}
use Rattle.point_maintain.proofs.laws.SettleAllLaws.{in_slots, in_shaped, in_rows-past}
use Rattle.point_maintain.specs.Inner.Closed.{relocated_by, relocated_at, relocated_below}
use Rattle.point_maintain_slots.specs.Inner.Pass.{Slotted, Ready, target_rows, turned, turned_rows}

pub shaped_slotted : (t : Tables) → Shaped t → (s : ℕ) → s < slots_of t → Slotted t s
shaped_slotted t h s l =
    record { in_nums = l; in_reals = omega (arith, h.of_reals); in_ints = omega (arith, h.of_ints); in_map = omega (arith, h.of_map) }

-- the target cell is that of the position, so the row is that of the entry
pub target_rows_lem : (size s : ℕ) (c : Cell) (st : State) → Agrees size c st → target_rows s st ≡ map row_of (relocated_by size s st)
target_rows_lem size s c Unchanged a = refl
target_rows_lem size s c (NewPos p) a = refl
target_rows_lem size s c (Relocate p d) a = ap (λ (e : Cell). (key_of e ∷ s ∷ []) ∷ []) (sym a.1)
target_rows_lem size s c Removed a = refl

pub turned_rows_lem : (t : Tables) → Ready t → (s : ℕ) → s < slots_of t → turned_rows t s ≡ map row_of (relocated_at t s)
turned_rows_lem t r s l =
    by_test (is_live t s)
    (λ e. rw e (target_rows_lem (size_of t) s (record_on t s).cell (record_on t s).state (r.agrees s l (eqb-true _ _ e))))
    (λ e. rw e)

-- ---- slot i, once every slot below it is settled
module _ (t : Tables) (i : ℕ) where
  as_it_was : rows_at (settled_in (is_live t) i t) i ≡ rows_at t i
  as_it_was = in_rows-past (is_live t) t i i (omega arith)

  same_live : is_live (settled_in (is_live t) i t) i ≡ is_live t i
  same_live = ap (λ (w : Rows). eqb (record_in w).phase live) as_it_was

  pub next-turned : turned (settled_in (is_live t) i t) i ≡ settled_in (is_live t) (suc i) t
  unfolding settled_in
  next-turned = ap (λ (b : Bool). pick b (settled (settled_in (is_live t) i t) i) (settled_in (is_live t) i t)) same_live

  pub next-rows : turned_rows (settled_in (is_live t) i t) i ≡ turned_rows t i
  next-rows = ap (λ (w : Rows). pick (eqb (record_in w).phase live) (target_rows i (record_in w).state) []) as_it_was

  pub next_slotted : Shaped t → i < slots_of t → Slotted (settled_in (is_live t) i t) i
  next_slotted h l = shaped_slotted (settled_in (is_live t) i t) (in_shaped (is_live t) t i h) i (rw (in_slots (is_live t) t i) l)

-- ---- the rows of the slots below n
module _ (t : Tables) where
  pub below_next : (r : Ready t) (n : ℕ) → n < slots_of t → map row_of (relocated_below (suc n) t) ≡ map row_of (relocated_below n t) ++ turned_rows t n
  unfolding relocated_below
  below_next r n l = rw (turned_rows_lem t r n l) (map-append row_of (relocated_below n t) (relocated_at t n))

  pub below-count : (r : Ready t) (n : ℕ) → n < slots_of t → length (relocated_below (suc n) t) ≡ length (relocated_below n t) + length (turned_rows t n)
  unfolding relocated_below
  below-count r n l = rw (turned_rows_lem t r n l, length-map (relocated_at t n) row_of) (length-append (relocated_below n t) (relocated_at t n))

  below_step : (n : ℕ) → length (relocated_below n t) ≤ length (relocated_below (suc n) t)
  unfolding relocated_below
  below_step n = omega (arith, length-append (relocated_below n t) (relocated_at t n))

  pub below_grows : (n m : ℕ) → m ≤ n → length (relocated_below m t) ≤ length (relocated_below n t)
  below_grows zero m h = let e : m ≡ 0 = omega arith in rw e (omega arith)
  below_grows (suc n) m h =
      ⊎_elim
      (λ e. rw e (omega arith))
      (λ d. omega (arith, below_grows n m (omega (arith, d)), below_step n))
      (d_eq m (suc n))
