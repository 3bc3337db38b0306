-- `set_position` and `remove` on columns with the same records: the same answer, and the same records after. Assumes nothing.
use Rattle.basics.specs.Words.{ℕ, ◌≡◌, refl, ap, subst, eqb}
use Rattle.geometry.specs.declared.Position.{Position}
use Rattle.cells.specs.Meaning.Key.{key_of}
use Rattle.slots.specs.declared.Handle.{Handle}
use Rattle.storage.specs.Meaning.Keyed.{written}
use Rattle.storage.specs.Meaning.CellTable.{marked}
use Rattle.point_records.specs.declared.State.{State}
use Rattle.point_records.specs.declared.State.TheVariants.{Removed}
use Rattle.point_records.specs.declared.Record.{Record}
use Rattle.point_records.specs.Meaning.States.{aimed, with_state}
use Rattle.point_tables.specs.Meaning.Tables.{Tables, size_of, record_on, cell_rows}
use Rattle.point_tables.specs.Meaning.Holds.{Holds}
use Rattle.point_tables.specs.Meaning.Outcome.{stored}
use Rattle.replies.specs.Meaning.Replies.{reply}
use Rattle.point_deferred.specs.Meaning.Moves.{pended, set_position_answer, set_position_of, remove_answer, remove_of}
use Rattle.records.specs.Inner.Alike.{Alike, with_columns}
use Rattle.records.proofs.laws.Alike.{Respects}
use Rattle.records.proofs.laws.AlikeLaws.{both_hold, tracker-alike, good-alike, gone-alike}
use Rattle.records.proofs.laws.StoredLaws.{stored-alike}
use Rattle.record_histories.proofs.laws.SameLaws.{Same, same-pick, to_respect}

module _ (t u : Tables) where
  abbrev v : Tables
  v = with_columns t u

  module _ (like : Alike t v) where
    -- the record of slot s takes a state that the record says
    pended-alike : (s : ℕ) (f : Record → State) → Alike (pended t s (f (record_on t s))) (pended v s (f (record_on v s)))
    unfolding pended
    pended-alike s f =
        let r = record_on t s in
        subst
        (λ (x : Record). Alike (pended t s (f r)) (stored v s (with_state x (f x)) (written (marked (key_of x.cell) (cell_rows t)) t.cells)))
        (like.each s)
        (stored-alike t v like s (with_state r (f r)) (written (marked (key_of r.cell) (cell_rows t)) t.cells) refl)

    module _ (h : Holds t) (hv : Holds v) where
      set-answer : (g : Handle) (at : Position) (k : ℕ) → set_position_answer t g at k ≡ set_position_answer v g at k
      unfolding set_position_answer
      set-answer g at k =
          let s = g.slot in
          cc (both_hold t v like h hv, good-alike t v like s g.version, gone-alike t v like s g.version, tracker-alike t v like s, like.each s)

      set_same : (g : Handle) (at : Position) (k : ℕ) → Same (set_position_of t g at k) (set_position_of v g at k)
      unfolding set_position_of
      set_same g at k =
          let e = set-answer g at k in
          same-pick _ _ _ _ (eqb (set_position_answer t g at k) 0) (eqb (set_position_answer v g at k) 0) (ap (λ (n : ℕ). eqb n 0) e)
          (refl, pended-alike g.slot (λ r. aimed (size_of t) r.cell at))
          (ap (λ (n : ℕ). reply n 0) e, like)

      remove-answer : (g : Handle) (k : ℕ) → remove_answer t g k ≡ remove_answer v g k
      unfolding remove_answer
      remove-answer g k =
          let s = g.slot in
          cc (both_hold t v like h hv, good-alike t v like s g.version, gone-alike t v like s g.version, tracker-alike t v like s)

      remove-same : (g : Handle) (k : ℕ) → Same (remove_of t g k) (remove_of v g k)
      unfolding remove_of
      remove-same g k =
          let e = remove-answer g k in
          same-pick _ _ _ _ (eqb (remove_answer t g k) 0) (eqb (remove_answer v g k) 0) (ap (λ (n : ℕ). eqb n 0) e)
          (ap (λ (r : Record). reply 0 r.obj) (like.each g.slot), pended-alike g.slot (λ r. Removed))
          (ap (λ (n : ℕ). reply n 0) e, like)

pub set-position_respects : (g : Handle) (at : Position) (k : ℕ) → Respects (λ t. set_position_of t g at k)
set-position_respects g at k = to_respect (λ t. set_position_of t g at k) (λ t u h hv a. set_same t u a h hv g at k)

pub remove_respects : (g : Handle) (k : ℕ) → Respects (λ t. remove_of t g k)
remove_respects g k = to_respect (λ t. remove_of t g k) (λ t u h hv a. remove-same t u a h hv g k)
