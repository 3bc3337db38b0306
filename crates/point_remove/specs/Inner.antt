-- What the steps of the code are asked for and give. Assumes nothing.
use Rattle.std.specs.Prelude.{◌<◌, ◌≡◌}
use Rattle.basics.specs.Words.{ℕ, Bool, List, length, take}
use Rattle.basics.specs.Meaning.Refusals.{pick}
use Rattle.storage.specs.Meaning.Keyed.{under, written}
use Rattle.storage.specs.Meaning.Entries.{row_key}
use Rattle.storage.specs.Meaning.CellTable.{dropped}
use Rattle.slots.specs.Meaning.Slot.{live, phase_at}
use Rattle.point_tables.specs.Meaning.Tables.{Tables, slots_of, record_on}
use Rattle.point_tables.specs.Meaning.Holds.{Holds}
use Rattle.point_tables.specs.Meaning.Outcome.{Outcome, outcome}
use Rattle.point_remove.specs.Meaning.RemoveMaintain.{is_empty, taken_out}

-- slot s has an object, in tables that hold a grid
pub record Object (t : Tables) (s : ℕ) : Type 0 where
  pub held : Holds t
  pub inside : s < slots_of t
  pub occupied : phase_at t.nums s ≡ live

-- taking it out returns its data
abbrev pub taken_from : Tables → ℕ → Outcome ℕ
taken_from t s = outcome (record_on t s).obj (taken_out t s)

-- ---- the rows of the cells, by whether the list of k is empty
abbrev pub rows_by : Bool → ℕ → List (List ℕ) → List (List ℕ)
rows_by b k c = pick b (dropped k c) c

-- the rows in use that are left where the used part of a pool has the lists
abbrev pub rows_left : List (List ℕ) → ℕ → ℕ → List (List ℕ) → ℕ → List (List ℕ)
rows_left pool used k cells rows = rows_by (is_empty (under row_key k (take used pool))) k (take rows cells)

-- a cell table with n rows in use, and past them what it had before
abbrev pub RowsInUse : List (List ℕ) → List (List ℕ) → List (List ℕ) → ℕ → Type 0
RowsInUse rows cells cells' n = (n ≡ length rows) × (cells' ≡ written rows cells)
