-- Tables hold a grid: what is asked of them, clause by clause. Assumes nothing.
-- Of rows that are not in use nothing is asked but version, phase and map bit of every slot.
use Rattle.std.specs.Prelude.{◌<◌, ◌≤◌, ◌≡◌}
use Rattle.basics.specs.Words.{ℕ, [], get_or}
use Rattle.std.specs.Float.{nan}
use Rattle.cells.specs.Meaning.Size.{SizeInDomain}
use Rattle.cells.specs.Meaning.Key.{key_of}
use Rattle.slots.specs.Meaning.Slot.{live, phase_at, SlotsHold}
use Rattle.storage.specs.Meaning.Packed.{first, second, Packed}
use Rattle.point_records.specs.Meaning.Columns.{tag_of}
use Rattle.point_records.specs.Meaning.Word.{last_word, word_at}
use Rattle.point_records.specs.Meaning.Occupied.{Occupied}
use Rattle.point_tables.specs.Meaning.Tables.{Tables, size_of, used_of, rows_of, slots_of, record_on, Sized}

-- the cell size is in its limits, and the counts are within the tables
pub record Counted (t : Tables) : Type 0 where
  pub size : SizeInDomain (size_of t)
  pub used-most : used_of t ≤ slots_of t
  pub rows-most : rows_of t ≤ slots_of t

-- an occupied slot: its word is at most 31, a tracker of 0 to 7 and a tag of 0 to 3, its numbers are in the domain, its cell is that of its
-- position, and what is pending agrees
pub record RecordHolds (t : Tables) (s : ℕ) : Type 0 where
  pub worded : word_at t.nums s ≤ last_word
  pub occupied : Occupied (size_of t) (record_on t s)

-- entry j names an occupied slot, under the key of its cell, with its recorded position: equal as data, so by bits
pub record EntryHolds (t : Tables) (j : ℕ) : Type 0 where
  pub inside : second t.pool j < slots_of t
  pub occupied : phase_at t.nums (second t.pool j) ≡ live
  pub key : first t.pool j ≡ key_of (record_on t (second t.pool j)).cell
  pub at_x : get_or (get_or t.spots j []) 0 nan ≡ (record_on t (second t.pool j)).position.x
  pub at_y : get_or (get_or t.spots j []) 1 nan ≡ (record_on t (second t.pool j)).position.y

-- each object stands once in the list of its cell, and no list names anything else
pub record ListsHold (t : Tables) : Type 0 where
  pub each : (j : ℕ) → j < used_of t → EntryHolds t j
  pub once : (i j : ℕ) → j < used_of t → i < j → second t.pool i ≡ second t.pool j → ⊥
  pub every : (s : ℕ) → s < slots_of t → phase_at t.nums s ≡ live → (j : ℕ) × (j < used_of t) × (second t.pool j ≡ s)

-- an object that maintain has something to do to
pub record Pending (t : Tables) (s : ℕ) : Type 0 where
  pub occupied : phase_at t.nums s ≡ live
  pub changed : tag_of (record_on t s).state ≡ 0 → ⊥

pub record Holds (t : Tables) : Type 0 where
  pub sized : Sized t
  pub counted : Counted t
  -- the slot map agrees with the records; no version is 0; a retired slot is empty at the last version
  pub slots : SlotsHold t.nums t.map
  -- each occupied record's cell is that of its position; pending targets agree with the cell rule; all numbers are in the domain
  pub records : (s : ℕ) → s < slots_of t → phase_at t.nums s ≡ live → RecordHolds t s
  -- no cell has two lists; each pool entry is in one list or free
  pub packed : Packed (used_of t) (rows_of t) t.pool t.cells
  pub lists : ListsHold t
  -- a cell with a pending object is marked dirty
  pub dirty : (s : ℕ) → s < slots_of t → Pending t s → (r : ℕ) → r < rows_of t → first t.cells r ≡ key_of (record_on t s).cell → second t.cells r ≡ 1
