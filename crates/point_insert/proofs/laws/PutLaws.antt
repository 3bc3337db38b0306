-- The tables after an insert, part by part: the counts, the slots, the records, the entries and the rows. Assumes nothing.
use Rattle.basics.specs.Words.{ℕ, ◌+◌, ◌<◌, ◌≤◌, ◌≡◌, refl, ◌∙◌, ap, subst, map, length, set, length-set, length-map, arith}
use Rattle.geometry.specs.declared.Position.{Position}
use Rattle.slots.specs.Meaning.Map.{head, taken}
use Rattle.slots.proofs.laws.MapLaws.{taken-length, taken-head}
use Rattle.slots.specs.Meaning.Slot.{free, live, phase_at, SlotsHold}
use Rattle.slots.proofs.laws.SlotLaws.{taken-holds}
use Rattle.storage.specs.Meaning.Entries.{row_of, spot_of, entry_key, entries_of}
use Rattle.storage.specs.Meaning.Packed.{Packed}
use Rattle.storage.proofs.laws.AppendLaws.{length-append1}
use Rattle.storage.proofs.laws.ColumnLaws.{rows-append1}
use Rattle.storage.proofs.laws.WrittenLaws.{length-written}
use Rattle.point_records.specs.Meaning.Columns.{nums_of}
use Rattle.point_records.proofs.laws.ColumnLaws.{stored_same, stored_other}
use Rattle.point_tables.specs.Meaning.Tables.{Tables, size_of, used_of, rows_of, slots_of, record_on, entries_in, cell_rows, Sized}
use Rattle.point_tables.specs.Meaning.Holds.{Counted, Holds}
use Rattle.point_tables.proofs.laws.HoldsLaws.{entry-rows, entries-length}
use Rattle.point_insert.specs.Meaning.Insert.{new_record, new_entry, entries_with, rows_with, put}
use Rattle.point_tables.proofs.laws.HeadLaws.{counted-used, counted-rows, counted-size, counted-length, counted-slots}
use Rattle.point_tables.proofs.laws.EntryLaws.{written-entries}
use Rattle.point_tables.proofs.laws.RowLaws.{PackedRows, from_rows}
use Rattle.point_insert.proofs.laws.EnterLaws.{packed-append, rows-least}
use Rattle.point_tables.proofs.laws.ListedLaws.{rows_in_lem}
use Rattle.point_tables.proofs.laws.RoomLaws.{room}

-- ---- a free slot s of tables that hold a grid takes an object at p, of tracker k
module _ (t : Tables) (h : Holds t) (s : ℕ) (inside : s < slots_of t) (is_free : phase_at t.nums s ≡ free) (p : Position) (d k : ℕ) where
  not_live : phase_at t.nums s ≡ live → ⊥
  not_live e = omega arith

  in_reals : s < length t.reals
  in_reals = rw h.sized.of_reals inside

  in_ints : s < length t.ints
  in_ints = rw h.sized.of_ints inside

  heads : head ≤ length (taken t.map s)
  heads = rw (taken-length t.map s) (omega (arith, h.sized.of_map))

  -- ---- the counts
  pub more : length (entries_with t s p) ≡ used_of t + 1
  more = length-append1 entry_key (entries_in t) (new_entry t s p) ∙ ap (λ (n : ℕ). n + 1) (entries-length t h)

  pub fits : length (entries_with t s p) ≤ slots_of t
  fits = omega (arith, more, room t h s inside not_live)

  pub put-used : used_of (put t s p d k) ≡ length (entries_with t s p)
  unfolding put
  put-used = counted-used (taken t.map s) _ _ heads

  pub put-rows : rows_of (put t s p d k) ≡ length (rows_with t p)
  unfolding put
  put-rows = counted-rows (taken t.map s) _ _ heads

  pub put-size : size_of (put t s p d k) ≡ size_of t
  unfolding put
  put-size = counted-size (taken t.map s) _ _ heads ∙ taken-head t.map s 0 (omega arith)

  -- ---- the slots and the records
  pub put-slots : SlotsHold (put t s p d k).nums (put t s p d k).map
  unfolding put
  put-slots =
      counted-slots (taken t.map s) _ _ heads (set t.nums s (nums_of (new_record t s p d k)))
      (taken-holds t.nums t.map h.slots s inside h.sized.of_map is_free (nums_of (new_record t s p d k)) refl refl)

  pub put_same : record_on (put t s p d k) s ≡ new_record t s p d k
  unfolding put
  put_same = stored_same t.nums t.reals t.ints s (new_record t s p d k) inside in_reals in_ints

  pub put_other : (i : ℕ) → (i ≡ s → ⊥) → record_on (put t s p d k) i ≡ record_on t i
  unfolding put
  put_other i n = stored_other t.nums t.reals t.ints s (new_record t s p d k) i n

  -- ---- the entries and the rows
  pub put_entries : entries_in (put t s p d k) ≡ entries_with t s p
  put_entries = ap (entries_of (put t s p d k).pool (put t s p d k).spots) put-used ∙ as_written
    where
      as_written : entries_of (put t s p d k).pool (put t s p d k).spots (length (entries_with t s p)) ≡ entries_with t s p
      as_written = unfold put in written-entries (entries_with t s p) t.pool t.spots

  old_rows : PackedRows (map row_of (entries_in t)) (cell_rows t)
  old_rows = rw (entry-rows t h) (rows_in_lem t h)

  new-rows : PackedRows (map row_of (entries_with t s p)) (rows_with t p)
  new-rows = rw (rows-append1 (entries_in t) (new_entry t s p)) (packed-append (map row_of (entries_in t)) (cell_rows t) old_rows (row_of (new_entry t s p)))

  as_written : Packed (length (entries_with t s p)) (length (rows_with t p)) (put t s p d k).pool (put t s p d k).cells
  unfolding put
  as_written =
      subst (λ (n : ℕ). Packed n (length (rows_with t p)) (put t s p d k).pool (put t s p d k).cells) (length-map (entries_with t s p) row_of)
      (from_rows (map row_of (entries_with t s p)) (rows_with t p) t.pool t.cells new-rows)

  pub put-packed : Packed (used_of (put t s p d k)) (rows_of (put t s p d k)) (put t s p d k).pool (put t s p d k).cells
  put-packed = rw (put-used, put-rows) as_written

  -- ---- the lengths and the counts
  rows_fit : length (rows_with t p) ≤ slots_of t
  rows_fit = omega (arith, fits, rows-least _ _ _ _ as_written)

  pub put-sized : Sized (put t s p d k)
  unfolding put
  put-sized =
      rw (length-set t.nums s (nums_of (new_record t s p d k)))
      (record {
        some = h.sized.some;
        most = h.sized.most;
        of_reals = length-set t.reals s _ ∙ h.sized.of_reals;
        of_ints = length-set t.ints s _ ∙ h.sized.of_ints;
        of_map = counted-length (taken t.map s) _ _ heads ∙ taken-length t.map s ∙ h.sized.of_map;
        of_pool = length-written (map row_of (entries_with t s p)) t.pool (omega (arith, length-map (entries_with t s p) row_of, fits, h.sized.of_pool)) ∙ h.sized.of_pool;
        of_spots = length-written (map spot_of (entries_with t s p)) t.spots (omega (arith, length-map (entries_with t s p) spot_of, fits, h.sized.of_spots)) ∙ h.sized.of_spots;
        of_cells = length-written (rows_with t p) t.cells (omega (arith, rows_fit, h.sized.of_cells)) ∙ h.sized.of_cells;
      })

  pub put-length : slots_of (put t s p d k) ≡ slots_of t
  unfolding put
  put-length = length-set t.nums s _

  pub put-counted : Counted (put t s p d k)
  put-counted = record { size = rw put-size h.counted.size; used-most = rw (put-used, put-length) fits; rows-most = rw (put-rows, put-length) rows_fit }
