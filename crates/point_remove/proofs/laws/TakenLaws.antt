-- The tables after an object is taken out, part by part: the head words, the slots, the records, the entries and the rows.
-- Assumes nothing.
use Rattle.basics.specs.Words.{ℕ, ◌+◌, ◌<◌, ◌≤◌, ◌≡◌, refl, sym, ◌∙◌, ap, subst, Bool, true, List, [], ◌∷◌, map, length, get_or, length-map, arith, eq-eqb}
use Rattle.cells.specs.Meaning.Key.{key_of}
use Rattle.slots.specs.Meaning.Map.{head}
use Rattle.slots.specs.Meaning.Slot.{live, phase_at, version_at, emptied_nums, emptied_map, SlotsHold}
use Rattle.slots.proofs.laws.SlotLaws.{emptied-holds}
use Rattle.slots.proofs.laws.EmptyLaws.{emptied-length, emptied-same, emptied_other, emptied-map-length, emptied-map-head}
use Rattle.storage.specs.Meaning.Keyed.{under}
use Rattle.storage.specs.Meaning.Entries.{Entry, row_key, row_of, spot_of, entry_key, entries_of, is_item}
use Rattle.storage.specs.Meaning.Packed.{Packed}
use Rattle.storage.proofs.laws.WrittenLaws.{length-written}
use Rattle.storage.proofs.laws.ColumnLaws.{map-under, rows-take_out}
use Rattle.storage.proofs.laws.PoolLaws.{rows_column}
use Rattle.storage.proofs.laws.TakeOutLaws.{has, length-on_list-take_out}
use Rattle.slot_walks.proofs.laws.ClearedLaws.{next_not_live}
use Rattle.point_records.specs.Meaning.Columns.{record_of}
use Rattle.point_tables.specs.Meaning.Tables.{Tables, size_of, used_of, rows_of, slots_of, record_on, entries_in, cell_rows, Sized, slot_of}
use Rattle.point_tables.specs.Meaning.Holds.{Counted, Holds}
use Rattle.point_remove.specs.Meaning.RemoveMaintain.{is_empty, entries_without, rows_without, taken_out}
use Rattle.point_tables.proofs.laws.EntryLaws.{written-entries}
use Rattle.point_tables.proofs.laws.RowLaws.{PackedRows, from_rows}
use Rattle.point_tables.proofs.laws.ListedLaws.{Named, listing, rows_in_lem}
use Rattle.point_tables.proofs.laws.HoldsLaws.{used_in_pool, used_in_spots, entries-length, rows-length}
use Rattle.point_tables.proofs.laws.HeadLaws.{counted-used, counted-rows, counted-size, counted-length, counted-slots}
use Rattle.point_remove.proofs.laws.GoneLaws.{some-both, some-filter, some_has}
use Rattle.point_remove.proofs.laws.DropLaws.{rows_by-length, packed-remove}
use Rattle.point_remove.specs.Inner.{rows_by}

empty_rows : (l : List Entry) → is_empty (map row_of l) ≡ is_empty l
empty_rows [] = refl
empty_rows (e ∷ l) = refl

-- ---- the object of slot s
module _ (t : Tables) (h : Holds t) (s : ℕ) (inside : s < slots_of t) (is_live : phase_at t.nums s ≡ live) where
  abbrev key : ℕ
  key = key_of (record_on t s).cell

  heads : head ≤ length (emptied_map t.nums t.map s)
  heads = rw (emptied-map-length t.nums t.map s) (omega (arith, h.sized.of_map))

  -- ---- its entry stands in the list of its cell
  pub entry_found : has (λ e. is_item s e.row) (under entry_key key (entries_in t)) ≡ true
  entry_found =
      some_has (λ e. (slot_of e ≡ s) × Named t e) _ (λ e q. eq-eqb (slot_of e) s q.0) (under entry_key key (entries_in t))
      (some-filter _ _ (λ e q. eq-eqb (entry_key e) key (q.1.key ∙ ap (λ (i : ℕ). key_of (record_on t i).cell) q.0)) (entries_in t)
      (some-both (λ e. slot_of e ≡ s) (Named t) (entries_in t) ((listing t h).every s inside is_live) (listing t h).each))

  -- ---- the counts
  pub one_less : length (entries_without t s) + 1 ≡ used_of t
  one_less = length-on_list-take_out entry_key key _ (entries_in t) entry_found ∙ entries-length t h

  pub rows_fit : length (rows_without t s) ≤ rows_of t
  rows_fit = omega (arith, rows_by-length (is_empty (under entry_key key (entries_without t s))) key (cell_rows t), rows-length t h)

  pub taken-used : used_of (taken_out t s) ≡ length (entries_without t s)
  unfolding taken_out
  taken-used = counted-used (emptied_map t.nums t.map s) _ _ heads

  pub taken-rows : rows_of (taken_out t s) ≡ length (rows_without t s)
  unfolding taken_out
  taken-rows = counted-rows (emptied_map t.nums t.map s) _ _ heads

  pub taken-size : size_of (taken_out t s) ≡ size_of t
  unfolding taken_out
  taken-size = counted-size (emptied_map t.nums t.map s) _ _ heads ∙ emptied-map-head t.nums t.map s 0 (omega arith)

  pub taken-length : slots_of (taken_out t s) ≡ slots_of t
  unfolding taken_out
  taken-length = emptied-length t.nums s

  -- ---- the slots and their rows
  pub taken-slots : SlotsHold (taken_out t s).nums (taken_out t s).map
  unfolding taken_out
  taken-slots = counted-slots (emptied_map t.nums t.map s) _ _ heads (emptied_nums t.nums s) (emptied-holds t.nums t.map h.slots s inside h.sized.of_map is_live)

  pub taken-gone : phase_at (taken_out t s).nums s ≡ live → ⊥
  unfolding taken_out
  taken-gone e = next_not_live (version_at t.nums s) (sym (ap (λ (r : List ℕ). get_or r 1 0) (emptied-same t.nums s inside)) ∙ e)

  pub taken_other : (i : ℕ) → (i ≡ s → ⊥) → get_or (taken_out t s).nums i [] ≡ get_or t.nums i []
  unfolding taken_out
  taken_other i n = emptied_other t.nums s i n

  pub taken_record : (i : ℕ) → (i ≡ s → ⊥) → record_on (taken_out t s) i ≡ record_on t i
  taken_record i n = rw (taken_other i n) same
    where
      same : record_of (get_or t.nums i []) (get_or (taken_out t s).reals i []) (get_or (taken_out t s).ints i []) ≡ record_on t i
      same = unfold taken_out in refl

  -- ---- the entries and the rows
  pub taken-entries : entries_in (taken_out t s) ≡ entries_without t s
  taken-entries = ap (entries_of (taken_out t s).pool (taken_out t s).spots) taken-used ∙ as_written
    where
      as_written : entries_of (taken_out t s).pool (taken_out t s).spots (length (entries_without t s)) ≡ entries_without t s
      as_written = unfold taken_out in written-entries (entries_without t s) t.pool t.spots

  old_rows : PackedRows (map row_of (entries_in t)) (cell_rows t)
  old_rows = rw (rows_column t.pool t.spots (used_of t) (used_in_pool t h) (used_in_spots t h)) (rows_in_lem t h)

  same_list : under row_key key (map row_of (entries_without t s)) ≡ map row_of (under entry_key key (entries_without t s))
  same_list = sym (map-under row_of entry_key row_key (λ e. refl) key (entries_without t s))

  -- the cell's list is empty exactly when none of the pool's rows has its key
  pub same_empty : is_empty (under row_key key (map row_of (entries_without t s))) ≡ is_empty (under entry_key key (entries_without t s))
  same_empty = ap is_empty same_list ∙ empty_rows (under entry_key key (entries_without t s))

  pub new-rows : PackedRows (map row_of (entries_without t s)) (rows_without t s)
  new-rows =
      subst (λ (b : Bool). PackedRows (map row_of (entries_without t s)) (rows_by b key (cell_rows t))) same_empty
      (rw (rows-take_out (entries_in t) key (is_item s)) (packed-remove (map row_of (entries_in t)) (cell_rows t) old_rows key (is_item s)))

  rows_written : Packed (length (entries_without t s)) (length (rows_without t s)) (taken_out t s).pool (taken_out t s).cells
  unfolding taken_out
  rows_written =
      subst (λ (n : ℕ). Packed n (length (rows_without t s)) (taken_out t s).pool (taken_out t s).cells) (length-map (entries_without t s) row_of)
      (from_rows (map row_of (entries_without t s)) (rows_without t s) t.pool t.cells new-rows)

  pub taken-packed : Packed (used_of (taken_out t s)) (rows_of (taken_out t s)) (taken_out t s).pool (taken_out t s).cells
  taken-packed = rw (taken-used, taken-rows) rows_written

  -- ---- the lengths and the counts
  fits : length (entries_without t s) ≤ slots_of t
  fits = omega (arith, one_less, h.counted.used-most)

  pub taken-sized : Sized (taken_out t s)
  unfolding taken_out
  taken-sized =
      rw (emptied-length t.nums s)
      (record {
        some = h.sized.some;
        most = h.sized.most;
        of_reals = h.sized.of_reals;
        of_ints = h.sized.of_ints;
        of_map = counted-length (emptied_map t.nums t.map s) _ _ heads ∙ emptied-map-length t.nums t.map s ∙ h.sized.of_map;
        of_pool = length-written (map row_of (entries_without t s)) t.pool (omega (arith, length-map (entries_without t s) row_of, fits, h.sized.of_pool)) ∙ h.sized.of_pool;
        of_spots = length-written (map spot_of (entries_without t s)) t.spots (omega (arith, length-map (entries_without t s) spot_of, fits, h.sized.of_spots)) ∙ h.sized.of_spots;
        of_cells = length-written (rows_without t s) t.cells (omega (arith, rows_fit, h.counted.rows-most, h.sized.of_cells)) ∙ h.sized.of_cells;
      })

  pub taken-counted : Counted (taken_out t s)
  taken-counted =
      record {
        size = rw taken-size h.counted.size;
        used-most = rw (taken-used, taken-length) fits;
        rows-most = rw (taken-rows, taken-length) (omega (arith, rows_fit, h.counted.rows-most));
      }
