-- The tables of a point grid of n slots, as lists, and their lengths. Assumes nothing.
use Rattle.std.specs.Prelude.{◌+◌, ◌≤◌, ◌≡◌, Float}
use Rattle.basics.specs.Words.{ℕ, List, length, get_or, set, take, ℤ}
use Rattle.basics.specs.Meaning.Limits.{most_slots}
use Rattle.point_records.specs.declared.Record.{Record}
use Rattle.point_records.specs.Meaning.Columns.{record_at}
use Rattle.slots.specs.Meaning.Map.{head, words_for}
use Rattle.storage.specs.Meaning.Entries.{Entry, entries_of, row_item}

-- nums: version, phase, obj, word (tracker and state); reals: recorded x, y, pending x, y; ints: recorded cell x, y, target cell x, y: a row for each slot.
-- map: cell size, entries in use, cells in use, then the usable bits. pool: cell key, slot, and spots: x, y: a row for each list entry.
-- cells: cell key, dirty mark: a row for each cell in use.
pub record Tables : Type 0 where
  pub nums : List (List ℕ)
  pub reals : List (List Float)
  pub ints : List (List ℤ)
  pub map : List ℕ
  pub pool : List (List ℕ)
  pub spots : List (List Float)
  pub cells : List (List ℕ)

abbrev pub tables : List (List ℕ) → List (List Float) → List (List ℤ) → List ℕ → List (List ℕ) → List (List Float) → List (List ℕ) → Tables
tables a b c d e f g = record { nums = a; reals = b; ints = c; map = d; pool = e; spots = f; cells = g }

-- ---- what the head words of the map say
abbrev pub size_of : Tables → ℕ
size_of t = get_or t.map 0 0

abbrev pub used_of : Tables → ℕ
used_of t = get_or t.map 1 0

abbrev pub rows_of : Tables → ℕ
rows_of t = get_or t.map 2 0

-- the map with other numbers of entries and cells in use
abbrev pub counting : List ℕ → ℕ → ℕ → List ℕ
counting m used rows = set (set m 1 used) 2 rows

-- ---- the number of slots, the record of a slot, the entries in use, the rows of the cells in use
abbrev pub slots_of : Tables → ℕ
slots_of t = length t.nums

abbrev pub record_on : Tables → ℕ → Record
record_on t s = record_at t.nums t.reals t.ints s

abbrev pub entries_in : Tables → List Entry
entries_in t = entries_of t.pool t.spots (used_of t)

-- the slot that an entry names
abbrev pub slot_of : Entry → ℕ
slot_of e = row_item e.row

abbrev pub cell_rows : Tables → List (List ℕ)
cell_rows t = take (rows_of t) t.cells

-- ---- the right lengths follow from n alone, n from 1 to 4,096
pub record Lengths (n reals ints map pool spots cells : ℕ) : Type 0 where
  pub some : 1 ≤ n
  pub most : n ≤ most_slots
  pub of_reals : reals ≡ n
  pub of_ints : ints ≡ n
  pub of_map : map ≡ head + words_for n
  pub of_pool : pool ≡ n
  pub of_spots : spots ≡ n
  pub of_cells : cells ≡ n

abbrev pub Sized : Tables → Type 0
Sized t = Lengths (slots_of t) (length t.reals) (length t.ints) (length t.map) (length t.pool) (length t.spots) (length t.cells)
