-- Two pending states, of two objects, in either order: the same records and the same marks, also where both are in one cell.
-- Assumes nothing.
use Rattle.basics.specs.Words.{ℕ, ◌<◌, ◌≡◌, sym, ap, ◌∙◌, List, [], ◌∷◌, ⊎_elim, set, set_comm}
use Rattle.basics.proofs.laws.Says.{d_eq}
use Rattle.cells.specs.Meaning.Key.{key_of}
use Rattle.slots.specs.Meaning.Slot.{live, phase_at}
use Rattle.storage.specs.Meaning.Packed.{first}
use Rattle.point_records.specs.declared.State.{State}
use Rattle.point_records.specs.declared.Record.{Record}
use Rattle.point_records.specs.Meaning.Columns.{nums_of, reals_of, ints_of}
use Rattle.point_records.specs.Meaning.States.{with_state}
use Rattle.point_tables.specs.Meaning.Tables.{Tables, slots_of, record_on}
use Rattle.point_tables.specs.Meaning.Outcome.{stored}
use Rattle.point_deferred.specs.Meaning.Moves.{pended}
use Rattle.point_deferred.specs.Inner.Ready.{Ready}
use Rattle.point_deferred.proofs.laws.ReadyLaws.{marked_is}
use Rattle.point_deferred.proofs.laws.PendedLaws.{record_other, cells-set, key-kept, pended_ready}

-- ---- two stores, in one place only where they store the same
sets_commute : {A : Type 0} (l : List A) (i j : ℕ) (a b : A) → (i ≡ j → a ≡ b) → set (set l i a) j b ≡ set (set l j b) i a
sets_commute l i j a b h = ⊎_elim (λ q. cc (h q)) (λ n. set_comm l i j a b n) (d_eq i j)

-- ---- two pending states, of two objects: two records, and two marks
module _ (t : Tables) (ready : Ready t) (r s : ℕ) (n : s ≡ r → ⊥) (x y : State) (lr : r < slots_of t) (pr : phase_at t.nums r ≡ live) (ls : s < slots_of t) (ps : phase_at t.nums s ≡ live) where
  abbrev mark_for : ℕ → List ℕ
  mark_for i = key_of (record_on t i).cell ∷ 1 ∷ []

  abbrev row_for : (i : ℕ) → i < slots_of t → phase_at t.nums i ≡ live → ℕ
  row_for i l p = (ready.has_row i l p).0

  same_record : record_on (pended t r x) s ≡ record_on t s
  same_record = record_other t r x ready lr s n

  cells-two : (pended (pended t r x) s y).cells ≡ set (set t.cells (row_for r lr pr) (mark_for r)) (row_for s ls ps) (mark_for s)
  unfolding pended
  cells-two =
      let u = pended t r x in
      let o = ready.has_row s ls ps in
      let key : first u.cells o.0 ≡ key_of (record_on u s).cell = key-kept t r x ready lr pr o.0 ∙ o.2 ∙ ap (λ (q : Record). key_of q.cell) (sym same_record) in
      marked_is u (pended_ready t r x ready lr pr) (key_of (record_on u s).cell) o.0 o.1 key
      ∙ ap (λ (q : Record). set u.cells o.0 (key_of q.cell ∷ 1 ∷ [])) same_record
      ∙ ap (λ (l : List (List ℕ)). set l o.0 (mark_for s)) (cells-set t r x ready lr pr)

  pended-two : pended (pended t r x) s y ≡ stored (stored t r (with_state (record_on t r) x) t.cells) s (with_state (record_on t s) y) (set (set t.cells (row_for r lr pr) (mark_for r)) (row_for s ls ps) (mark_for s))
  unfolding pended
  pended-two =
      let u = pended t r x in
      ap (λ (q : Record). stored u s (with_state q y) (pended u s y).cells) same_record
      ∙ ap (λ (l : List (List ℕ)). stored u s (with_state (record_on t s) y) l) cells-two

stored_commute : (t : Tables) (r s : ℕ) → (r ≡ s → ⊥) → (x y : Record) (a b c : List (List ℕ)) → stored (stored t r x a) s y c ≡ stored (stored t s y b) r x c
stored_commute t r s n x y a b c =
    cc (set_comm t.nums r s (nums_of x) (nums_of y) n, set_comm t.reals r s (reals_of x) (reals_of y) n, set_comm t.ints r s (ints_of x) (ints_of y) n)

pub pended_commute : (t : Tables) → Ready t → (r s : ℕ) → (s ≡ r → ⊥) → (x y : State) → r < slots_of t → phase_at t.nums r ≡ live → s < slots_of t → phase_at t.nums s ≡ live
    → pended (pended t r x) s y ≡ pended (pended t s y) r x
pended_commute t ready r s n x y lr pr ls ps =
    let o = ready.has_row r lr pr in
    let q = ready.has_row s ls ps in
    let marks = sets_commute t.cells o.0 q.0 (key_of (record_on t r).cell ∷ 1 ∷ []) (key_of (record_on t s).cell ∷ 1 ∷ []) (λ e. ap (λ (k : ℕ). k ∷ 1 ∷ []) (sym o.2 ∙ ap (first t.cells) e ∙ q.2)) in
    pended-two t ready r s n x y lr pr ls ps
    ∙ stored_commute t r s (λ e. n (sym e)) (with_state (record_on t r) x) (with_state (record_on t s) y) t.cells t.cells _
    ∙ ap (stored (stored t s (with_state (record_on t s) y) t.cells) r (with_state (record_on t r) x)) marks
    ∙ sym (pended-two t ready s r (λ e. n (sym e)) y x ls ps lr pr)
