-- The records laid into columns, and gathered out of them. Both are total: what has no place on the other side stays. Assumes nothing.
use Rattle.std.specs.Prelude.{◌∷◌, Float}
use Rattle.basics.specs.Words.{ℕ, List, [], ℤ}
use Rattle.point_records.specs.declared.Record.{Record}
use Rattle.point_records.specs.Meaning.Columns.{record_of, nums_of, reals_of, ints_of}
use Rattle.point_tables.specs.Meaning.Tables.{Tables, tables}

-- a column whose first rows are those of the records
abbrev pub laid : {X : Type 0} → (Record → X) → List Record → List X → List X
laid row [] old = old
laid row (r ∷ rs) [] = []
laid row (r ∷ rs) (o ∷ os) = row r ∷ laid row rs os

-- the records of the rows of three columns, in the place of rs
abbrev pub gathered : List (List ℕ) → List (List Float) → List (List ℤ) → List Record → List Record
gathered ns qs zs [] = []
gathered [] qs zs (r ∷ rs) = r ∷ rs
gathered (n ∷ ns) [] zs (r ∷ rs) = r ∷ rs
gathered (n ∷ ns) (q ∷ qs) [] (r ∷ rs) = r ∷ rs
gathered (n ∷ ns) (q ∷ qs) (z ∷ zs) (r ∷ rs) = record_of n q z ∷ gathered ns qs zs rs

-- the tables with the columns of the records
abbrev pub besides : List Record → Tables → Tables
besides rs t = tables (laid nums_of rs t.nums) (laid reals_of rs t.reals) (laid ints_of rs t.ints) t.map t.pool t.spots t.cells

-- the records of the tables, in the place of rs
abbrev pub records_in : Tables → List Record → List Record
records_in t rs = gathered t.nums t.reals t.ints rs
