-- Tables hold a box grid: the list of document 01, clause by clause. Assumes nothing.
-- Of rows that are not in use nothing is asked but version, phase and map bit of every slot.
use Rattle.std.specs.Prelude.{◌<◌, ◌≤◌, ◌≡◌}
use Rattle.basics.specs.Words.{ℕ, length, T}
use Rattle.basics.specs.Meaning.Limits.{most_cells}
use Rattle.geometry.specs.Meaning.Domain.{aabb_in_domain}
use Rattle.cells.specs.Meaning.Size.{SizeInDomain}
use Rattle.slots.specs.Meaning.Slot.{live, phase_at, SlotsHold}
use Rattle.storage.specs.Meaning.Packed.{first, second}
use Rattle.box_cover.specs.Meaning.Coverage.{Stands}
use Rattle.box_tables.specs.Meaning.Tables.{Tables, size_of, used_of, slots_of, entries_in, aabb_on, low_cell, high_cell, covers, item_on, Sized}

-- the cell size is in its limits, and the entries in use are within the pool
pub record Counted (t : Tables) : Type 0 where
  pub size : SizeInDomain (size_of t)
  pub used-most : used_of t ≤ length t.pool

-- an occupied slot: its box is in the domain and not reversed, and covers at most 4,096 cells
pub record BoxHolds (t : Tables) (s : ℕ) : Type 0 where
  pub within_domain : T (aabb_in_domain (aabb_on t s))
  pub cells-most : covers (size_of t) (aabb_on t s) ≤ most_cells

-- entry j names an occupied slot, with the mark that this box has
pub record EntryHolds (t : Tables) (j : ℕ) : Type 0 where
  pub slot : ℕ
  pub inside : slot < slots_of t
  pub occupied : phase_at t.nums slot ≡ live
  pub item : second t.pool j ≡ item_on t slot

pub record Holds (t : Tables) : Type 0 where
  pub sized : Sized t
  pub counted : Counted t
  -- the slot map agrees with the records; no version is 0; a retired slot is empty at the last version
  pub slots : SlotsHold t.nums t.map
  -- all numbers are in the domain
  pub boxes : (s : ℕ) → s < slots_of t → phase_at t.nums s ≡ live → BoxHolds t s
  -- the entries in use are in the order of the keys: no cell has two lists, and each pool entry is in one list or free
  pub ordered : (i j : ℕ) → j < used_of t → i < j → first t.pool i ≤ first t.pool j
  -- no list names anything else
  pub each : (j : ℕ) → j < used_of t → EntryHolds t j
  -- each object stands once in the list of each cell that it covers
  pub every : (s : ℕ) → s < slots_of t → phase_at t.nums s ≡ live → Stands (low_cell (size_of t) (aabb_on t s)) (high_cell (size_of t) (aabb_on t s)) (item_on t s) (entries_in t)
