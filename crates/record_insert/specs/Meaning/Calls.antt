-- `insert` on columns of n rows, and on a table of records. Assumes nothing.
use Rattle.basics.specs.Words.{ℕ, List}
use Rattle.geometry.specs.declared.Position.{Position}
use Rattle.replies.specs.declared.Inserted.{Inserted}
use Rattle.replies.specs.Meaning.Replies.{inserted}
use Rattle.point_records.specs.declared.Record.{Record}
use Rattle.point_tables.specs.Meaning.Tables.{Tables}
use Rattle.point_insert.specs.Meaning.Insert.{insert_of}
use Rattle.records.specs.Meaning.Seen.{Seen, on_records}

abbrev pub insert_on : List Record → Tables → Position → ℕ → ℕ → Seen Inserted
insert_on rs t at obj k = on_records (λ u. insert_of u at obj k) (inserted 3 0 0) rs t
