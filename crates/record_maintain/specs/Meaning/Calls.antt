-- `maintain` on columns of n rows, and on a table of records. Assumes nothing.
use Rattle.basics.specs.Words.{List}
use Rattle.point_records.specs.declared.Record.{Record}
use Rattle.point_tables.specs.Meaning.Tables.{Tables}
use Rattle.point_maintain.specs.declared.Maintained.{Maintained}
use Rattle.point_maintain.specs.Meaning.Maintain.{maintained_counts, maintain_of}
use Rattle.records.specs.Meaning.Seen.{Seen, on_records}

abbrev pub maintain_on : List Record → Tables → Seen Maintained
maintain_on rs t = on_records maintain_of (maintained_counts 3 0 0) rs t
