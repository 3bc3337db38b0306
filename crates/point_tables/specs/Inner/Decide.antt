-- Whether tables hold a grid can be decided: `holds`. It is never computed: the check says the same. Assumes nothing.
-- Here: what only inner contracts cite.
use Rattle.basics.specs.Words.{ℕ}
use Rattle.basics.specs.Meaning.Says.{Decided}
use Rattle.basics.proofs.laws.Says.{d_via, d_and, d_imp, d_none, d_eq, d_le, d_lt, d_all, d_any}
use Rattle.basics.proofs.laws.DecideFloat.{d_float}
use Rattle.cells.specs.Meaning.Key.{key_of}
use Rattle.slots.specs.Meaning.Slot.{live, phase_at}
use Rattle.slots.proofs.laws.Decide.{d_slots}
use Rattle.storage.specs.Meaning.Packed.{first, second}
use Rattle.storage.proofs.laws.PackedDecide.{d_packed}
use Rattle.point_records.specs.Meaning.Columns.{tag_of}
use Rattle.point_records.proofs.laws.Decide.{d_occupied}
use Rattle.point_tables.specs.Meaning.Tables.{Tables, size_of, used_of, rows_of, slots_of, record_on, Lengths, Sized}
use Rattle.point_tables.specs.Meaning.Holds.{Counted, RecordHolds, EntryHolds, ListsHold, Pending, Holds}

pub d_lengths : (n reals ints map pool spots cells : ℕ) → Decided (Lengths n reals ints map pool spots cells)
d_lengths n reals ints map pool spots cells =
    d_via
    (λ x.
    record {
      some = x.0.0;
      most = x.0.1;
      of_reals = x.1.0.0;
      of_ints = x.1.0.1;
      of_map = x.1.1.0;
      of_pool = x.1.1.1.0;
      of_spots = x.1.1.1.1.0;
      of_cells = x.1.1.1.1.1;
    })
    (λ h. ((h.some, h.most), ((h.of_reals, h.of_ints), (h.of_map, (h.of_pool, (h.of_spots, h.of_cells))))))
    (d_and (d_and (d_le _ _) (d_le _ _)) (d_and (d_and (d_eq _ _) (d_eq _ _)) (d_and (d_eq _ _) (d_and (d_eq _ _) (d_and (d_eq _ _) (d_eq _ _))))))

module _ (t : Tables) where
  d_counted : Decided (Counted t)
  d_counted =
      d_via (λ x. record { size = x.0; used-most = x.1.0; rows-most = x.1.1 }) (λ h. (h.size, (h.used-most, h.rows-most)))
      (d_and (d_and (d_le _ _) (d_le _ _)) (d_and (d_le _ _) (d_le _ _)))

  d_record : (s : ℕ) → Decided (RecordHolds t s)
  d_record s =
      d_via (λ x. record { worded = x.0; occupied = x.1 }) (λ h. (h.worded, h.occupied)) (d_and (d_le _ _) (d_occupied (size_of t) (record_on t s)))

  d_entry : (j : ℕ) → Decided (EntryHolds t j)
  d_entry j =
      d_via (λ x. record { inside = x.0; occupied = x.1.0; key = x.1.1.0; at_x = x.1.1.1.0; at_y = x.1.1.1.1 })
      (λ h. (h.inside, (h.occupied, (h.key, (h.at_x, h.at_y)))))
      (d_and (d_lt _ _) (d_and (d_eq _ _) (d_and (d_eq _ _) (d_and (d_float _ _) (d_float _ _)))))

  d_lists : Decided (ListsHold t)
  d_lists =
      d_via (λ x. record { each = x.0; once = λ i j h l. x.1.0 j h i l; every = x.1.1 }) (λ h. (h.each, ((λ j l i m. h.once i j l m), h.every)))
      (d_and (d_all d_entry (used_of t))
      (d_and (d_all (λ j. d_all (λ i. d_imp (d_eq (second t.pool i) (second t.pool j)) d_none) j) (used_of t))
      (d_all (λ s. d_imp (d_eq (phase_at t.nums s) live) (d_any (λ j. d_eq (second t.pool j) s) (used_of t))) (slots_of t))))

  d_pending : (s : ℕ) → Decided (Pending t s)
  d_pending s =
      d_via (λ x. record { occupied = x.0; changed = x.1 }) (λ h. (h.occupied, h.changed))
      (d_and (d_eq _ _) (d_imp (d_eq (tag_of (record_on t s).state) 0) d_none))

  pub d_holds : Decided (Holds t)
  d_holds =
      d_via
      (λ x.
      record {
        sized = x.0;
        counted = x.1.0;
        slots = x.1.1.0;
        records = x.1.1.1.0;
        packed = x.1.1.1.1.0;
        lists = x.1.1.1.1.1.0;
        dirty = x.1.1.1.1.1.1;
      })
      (λ h. (h.sized, (h.counted, (h.slots, (h.records, (h.packed, (h.lists, h.dirty)))))))
      (d_and (d_lengths _ _ _ _ _ _ _)
      (d_and d_counted
      (d_and (d_slots t.nums t.map)
      (d_and (d_all (λ s. d_imp (d_eq (phase_at t.nums s) live) (d_record s)) (slots_of t))
      (d_and (d_packed (used_of t) (rows_of t) t.pool t.cells)
      (d_and d_lists
      (d_all (λ s. d_imp (d_pending s) (d_all (λ r. d_imp (d_eq (first t.cells r) (key_of (record_on t s).cell)) (d_eq (second t.cells r) _)) (rows_of t))) (slots_of t))))))))

-- whether the tables have the right lengths, and whether they hold a grid
pub d_sized : (t : Tables) → Decided (Sized t)
d_sized t = d_lengths _ _ _ _ _ _ _
