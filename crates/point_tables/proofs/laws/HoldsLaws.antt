-- What follows from tables that hold a grid: lengths, and the order of the entries. Assumes nothing.
use Rattle.basics.specs.Words.{◌≤◌, ◌≡◌, refl, sym, ap, ◌∙◌, map, length, take, length-map, length-take-le, arith}
use Rattle.storage.specs.Inner.Keyed.{Sorted}
use Rattle.storage.specs.Meaning.Entries.{row_key, row_of, entry_key}
use Rattle.storage.proofs.laws.ColumnLaws.{zipped-rows}
use Rattle.storage.proofs.laws.PackedLaws.{ordered-sorted}
use Rattle.storage.proofs.laws.KeepsLaws.{map-sorted}
use Rattle.point_tables.specs.Meaning.Tables.{Tables, used_of, rows_of, entries_in, cell_rows}
use Rattle.point_tables.specs.Meaning.Holds.{Holds}

module _ (t : Tables) (h : Holds t) where
  -- ---- lengths
  pub used_in_pool : used_of t ≤ length t.pool
  used_in_pool = omega (arith, h.counted.used-most, h.sized.of_pool)

  pub used_in_spots : used_of t ≤ length t.spots
  used_in_spots = omega (arith, h.counted.used-most, h.sized.of_spots)

  pub rows_in_cells : rows_of t ≤ length t.cells
  rows_in_cells = omega (arith, h.counted.rows-most, h.sized.of_cells)

  pub pool-length : length (take (used_of t) t.pool) ≡ used_of t
  pool-length = length-take-le (used_of t) t.pool used_in_pool

  pub spots-length : length (take (used_of t) t.spots) ≡ used_of t
  spots-length = length-take-le (used_of t) t.spots used_in_spots

  pub rows-length : length (cell_rows t) ≡ rows_of t
  rows-length = length-take-le (rows_of t) t.cells rows_in_cells

  pub entry-rows : map row_of (entries_in t) ≡ take (used_of t) t.pool
  entry-rows = zipped-rows (take (used_of t) t.pool) (take (used_of t) t.spots) (omega (arith, pool-length, spots-length))

  pub entries-length : length (entries_in t) ≡ used_of t
  entries-length = sym (length-map (entries_in t) row_of) ∙ ap length entry-rows ∙ pool-length

  -- ---- order
  pub pool-sorted : Sorted row_key (take (used_of t) t.pool)
  pool-sorted = ordered-sorted (used_of t) t.pool used_in_pool h.packed.ordered

  pub entries_sorted : Sorted entry_key (entries_in t)
  entries_sorted = map-sorted row_of entry_key row_key (λ x. refl) (entries_in t) (rw entry-rows pool-sorted)
