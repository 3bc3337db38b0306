-- After the pass the records hold the new position of each relocated object, so that the rows say the entries. Assumes nothing.
use Rattle.basics.specs.Words.{ℕ, zero, suc, ◌≤◌, ◌<◌, ◌≡◌, refl, ◌∙◌, ap, ap₂, true, List, [], ◌∷◌, ◌++◌, map, map-append, arith}
use Rattle.geometry.specs.declared.Position.{Position}
use Rattle.cells.specs.declared.Cell.{Cell}
use Rattle.storage.specs.Meaning.Entries.{Entry, row_of}
use Rattle.storage.proofs.laws.FilterLaws.{by_test}
use Rattle.storage_merge.specs.Inner.Grown.{recorded, recorded_entry}
use Rattle.point_records.specs.declared.State.{State}
use Rattle.point_records.specs.declared.State.TheVariants.{Unchanged, NewPos, Relocate, Removed}
use Rattle.point_tables.specs.Meaning.Tables.{Tables, size_of, slots_of, record_on}
use Rattle.point_tables.specs.Inner.Count.{is_live}
use Rattle.point_maintain.specs.Inner.Settle.{settled_all}
use Rattle.point_maintain.proofs.laws.SettleForm.{Rows, rows_at, rows_by, rows_after}
use Rattle.point_maintain.specs.Inner.Settle.{Shaped}
use Rattle.point_maintain.proofs.laws.SettleAllLaws.{in_rows}
use Rattle.point_maintain.specs.Inner.Closed.{relocated_by, relocated_at, relocated_below}

module _ (t : Tables) (h : Shaped t) where
  -- the rows of a live slot after the pass
  pub live-rows : (s : ℕ) → s < slots_of t → is_live t s ≡ true → rows_at (settled_all t) s ≡ rows_after (rows_at t s)
  unfolding settled_all
  live-rows s l e = in_rows (is_live t) t h (slots_of t) (omega arith) s l ∙ rw e

  -- the recorded position of a relocated object is the pending one
  pub relocated_spot : (s : ℕ) → s < slots_of t → is_live t s ≡ true → (p : Position) (c : Cell) → (record_on t s).state ≡ Relocate p c → recorded (settled_all t).reals s ≡ p.x ∷ p.y ∷ []
  unfolding rows_after
  relocated_spot s l e p c q =
      ap (λ (w : Rows). recorded (w.reals ∷ []) 0) (live-rows s l e ∙ ap (rows_by (rows_at t s)) q)

  spotted_by : (s : ℕ) → s < slots_of t → is_live t s ≡ true → (st : State) → (record_on t s).state ≡ st → map (recorded_entry (settled_all t).reals) (map row_of (relocated_by (size_of t) s st)) ≡ relocated_by (size_of t) s st
  spotted_by s l e Unchanged q = refl
  spotted_by s l e (NewPos p) q = refl
  spotted_by s l e (Relocate p c) q = rw (relocated_spot s l e p c q)
  spotted_by s l e Removed q = refl

  spotted_at : (s : ℕ) → s < slots_of t → map (recorded_entry (settled_all t).reals) (map row_of (relocated_at t s)) ≡ relocated_at t s
  spotted_at s l =
      by_test (is_live t s)
      (λ e. rw e (spotted_by s l e (record_on t s).state refl))
      (λ e. rw e)

  pub spotted_below : (n : ℕ) → n ≤ slots_of t → map (recorded_entry (settled_all t).reals) (map row_of (relocated_below n t)) ≡ relocated_below n t
  unfolding relocated_below
  spotted_below zero l = refl
  spotted_below (suc n) l =
      ap (map (recorded_entry (settled_all t).reals)) (map-append row_of (relocated_below n t) (relocated_at t n))
      ∙ map-append (recorded_entry (settled_all t).reals) (map row_of (relocated_below n t)) (map row_of (relocated_at t n))
      ∙ ap₂ {C = List Entry} ◌++◌ (spotted_below n (omega arith)) (spotted_at n l)
