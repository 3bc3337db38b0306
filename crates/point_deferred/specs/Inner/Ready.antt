-- What a deferred call needs of its tables: less than that they hold a grid, since it neither reads nor writes the pool. Assumes nothing.
use Rattle.std.specs.Prelude.{◌<◌, ◌≤◌, ◌≡◌}
use Rattle.basics.specs.Words.{ℕ, length}
use Rattle.geometry.specs.declared.Position.{Position}
use Rattle.cells.specs.Meaning.Size.{SizeInDomain}
use Rattle.cells.specs.Meaning.Key.{key_of}
use Rattle.slots.specs.Meaning.Slot.{live, phase_at}
use Rattle.storage.specs.Meaning.Packed.{first}
use Rattle.point_records.specs.Meaning.Occupied.{InDomain}
use Rattle.point_tables.specs.Meaning.Tables.{Tables, size_of, rows_of, slots_of, record_on}

pub record Ready (t : Tables) : Type 0 where
  pub of_reals : length t.reals ≡ slots_of t
  pub of_ints : length t.ints ≡ slots_of t
  pub of_map : 3 ≤ length t.map
  pub size : SizeInDomain (size_of t)
  -- the rows of the cells in use: their keys rise, and the cell of each object has one
  pub of_cells : rows_of t ≤ length t.cells
  pub ascending : (i j : ℕ) → j < rows_of t → i < j → first t.cells i < first t.cells j
  pub has_row : (s : ℕ) → s < slots_of t → phase_at t.nums s ≡ live → (r : ℕ) × (r < rows_of t) × (first t.cells r ≡ key_of (record_on t s).cell)

-- past the refusals: slot s has an object, and a new position is in the domain
pub record Workable (t : Tables) (s kind : ℕ) (at : Position) : Type 0 where
  pub inside : s < slots_of t
  pub occupied : phase_at t.nums s ≡ live
  pub within_domain : kind ≡ 0 → InDomain at
