-- `insert` on columns with the same records: the same slot, and the same records after. Assumes nothing.
use Rattle.std.specs.Prelude.{Option}
use Rattle.basics.specs.Words.{ℕ, ◌≡◌, refl, ap, subst, map, length, set, eqb}
use Rattle.geometry.specs.declared.Position.{Position}
use Rattle.cells.specs.Meaning.CellRule.{cell_at}
use Rattle.slots.specs.Meaning.Map.{taken, lowest_usable, slot_in}
use Rattle.slots.specs.Meaning.Slot.{version_at}
use Rattle.storage.specs.Meaning.Keyed.{written}
use Rattle.storage.specs.Meaning.Entries.{row_of, spot_of}
use Rattle.point_records.specs.declared.Record.{Record}
use Rattle.point_records.specs.Meaning.Columns.{nums_of, reals_of, ints_of}
use Rattle.point_tables.specs.Meaning.Tables.{Tables, tables, size_of, counting}
use Rattle.point_tables.specs.Meaning.Holds.{Holds}
use Rattle.point_tables.specs.Meaning.Outcome.{outcome, stored}
use Rattle.replies.specs.Meaning.Replies.{inserted}
use Rattle.point_insert.specs.Inner.Fresh.{fresh_record}
use Rattle.point_insert.specs.Meaning.Insert.{usable_slot, entries_with, rows_with, put, insert_answer, insert_of}
use Rattle.records.specs.Inner.Alike.{Alike, with_columns}
use Rattle.records.proofs.laws.Alike.{Respects}
use Rattle.records.proofs.laws.AlikeLaws.{both_hold}
use Rattle.records.proofs.laws.StoredLaws.{stored-alike}
use Rattle.record_histories.proofs.laws.SameLaws.{Same, same-pick, to_respect, beside}

module _ (t u : Tables) where
  abbrev v : Tables
  v = with_columns t u

  module _ (like : Alike t v) where
    version_is : (s : ℕ) → version_at t.nums s ≡ version_at v.nums s
    version_is s = ap (λ (r : Record). r.version) (like.each s)

    -- the record of the new object has the version of its slot
    put-alike : (s : ℕ) (p : Position) (d k : ℕ) → Alike (put t s p d k) (put v s p d k)
    unfolding put
    put-alike s p d k =
        let es = entries_with t s p in
        let m = counting (taken t.map s) (length es) (length (rows_with t p)) in
        let pool = written (map row_of es) t.pool in
        let spots = written (map spot_of es) t.spots in
        let cells = written (rows_with t p) t.cells in
        let r : ℕ → Record = λ n. fresh_record n p (cell_at (size_of t) p) d k in
        let old = version_at t.nums s in
        subst
        (λ (n : ℕ). Alike (put t s p d k) (tables (set v.nums s (nums_of (r n))) (set v.reals s (reals_of (r n))) (set v.ints s (ints_of (r n))) m pool spots cells))
        (version_is s)
        (beside (stored t s (r old) cells) (stored v s (r old) cells) (stored-alike t v like s (r old) cells refl) m pool spots cells)

    slot_is : usable_slot t ≡ usable_slot v
    slot_is = ap (lowest_usable t.map) like.of_nums

    module _ (h : Holds t) (hv : Holds v) where
      insert-answer : (p : Position) (k : ℕ) → insert_answer t p k ≡ insert_answer v p k
      unfolding insert_answer
      insert-answer p k = cc (both_hold t v like h hv, slot_is)

      insert-same : (p : Position) (d k : ℕ) → Same (insert_of t p d k) (insert_of v p d k)
      unfolding insert_of
      insert-same p d k =
          let e = insert-answer p k in
          let s = slot_in (usable_slot t) in
          same-pick _ _ _ _ (eqb (insert_answer t p k) 0) (eqb (insert_answer v p k) 0) (ap (λ (n : ℕ). eqb n 0) e)
          (subst
          (λ (x : Option ℕ). Same (outcome (inserted 0 s (version_at t.nums s)) (put t s p d k)) (outcome (inserted 0 (slot_in x) (version_at v.nums (slot_in x))) (put v (slot_in x) p d k)))
          slot_is
          (ap (inserted 0 s) (version_is s), put-alike s p d k))
          (ap (λ (n : ℕ). inserted n 0 0) e, like)

pub insert_respects : (p : Position) (d k : ℕ) → Respects (λ t. insert_of t p d k)
insert_respects p d k = to_respect (λ t. insert_of t p d k) (λ t u h hv a. insert-same t u a h hv p d k)
