-- The slots that the entries of a stretch of the pool name, and the entries of a range that is given by two keys. Assumes nothing.
use Rattle.std.specs.Prelude.{◌/◌, ◌<◌}
use Rattle.basics.specs.Words.{ℕ, List, map, slice}
use Rattle.basics.specs.Meaning.Limits.{most_boxes}
use Rattle.cells.specs.Inner.Key.{column_of, line_of}
use Rattle.storage.specs.Meaning.Keyed.{filter}
use Rattle.storage.specs.Meaning.Entries.{row_key}
use Rattle.storage.specs.Meaning.Packed.{second}
use Rattle.storage.specs.Inner.Window.{in_window}
use Rattle.box_tables.specs.Meaning.Tables.{slot_of}

-- the entries before place `to` name slots below 256
abbrev pub Slots : List (List ℕ) → ℕ → Type 0
Slots pool to = (j : ℕ) → j < to → second pool j / 2 < most_boxes

-- the slots of the places from `from` on, up to `to`
abbrev pub slots_in : List (List ℕ) → ℕ → ℕ → List ℕ
slots_in pool from to = map slot_of (slice from to pool)

-- the entries whose cell is in the range from the key `low` to the key `high`
abbrev pub inside : ℕ → ℕ → List (List ℕ) → List (List ℕ)
inside low high rows = filter (λ r. in_window (column_of low) (line_of low) (column_of high) (line_of high) (row_key r)) rows
