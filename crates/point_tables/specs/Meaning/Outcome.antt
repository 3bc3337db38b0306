-- The outcome of a call on the tables of a point grid. Assumes nothing.
use Rattle.basics.specs.Words.{ℕ, List, set}
use Rattle.basics.specs.Meaning.Outcome as OfTables
use Rattle.point_records.specs.declared.Record.{Record}
use Rattle.point_records.specs.Meaning.Columns.{nums_of, reals_of, ints_of}
use Rattle.point_tables.specs.Meaning.Tables.{Tables, tables}

abbrev pub Outcome : Type 0 → Type 0
Outcome R = OfTables.Outcome Tables R

abbrev pub outcome : {R : Type 0} → R → Tables → Outcome R
outcome r t = OfTables.outcome r t

-- the tables with a record for slot s, and with other rows in the cell table
abbrev pub stored : Tables → ℕ → Record → List (List ℕ) → Tables
stored t s r cells = tables (set t.nums s (nums_of r)) (set t.reals s (reals_of r)) (set t.ints s (ints_of r)) t.map t.pool t.spots cells
