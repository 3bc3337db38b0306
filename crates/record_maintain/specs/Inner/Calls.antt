-- `maintain` on columns of n rows, and on a table of records. Assumes nothing.
-- Here: what only inner contracts cite.
use Rattle.basics.specs.Words.{ℕ}
use Rattle.point_tables.specs.Meaning.Tables.{Tables}
use Rattle.point_tables.specs.Meaning.Outcome.{Outcome}
use Rattle.point_maintain.specs.declared.Maintained.{Maintained}
use Rattle.point_maintain.specs.Meaning.Maintain.{maintained_counts, maintain_of}
use Rattle.records.specs.Meaning.Seen.{fitted}

abbrev pub maintain_for : ℕ → Tables → Outcome Maintained
maintain_for n t = fitted maintain_of (maintained_counts 3 0 0) n t
