-- The outcome of a call on the tables of a box grid. Assumes nothing.
use Rattle.basics.specs.Meaning.Outcome as OfTables
use Rattle.box_tables.specs.Meaning.Tables.{Tables}

abbrev pub Outcome : Type 0 → Type 0
Outcome R = OfTables.Outcome Tables R

abbrev pub outcome : {R : Type 0} → R → Tables → Outcome R
outcome r t = OfTables.outcome r t
