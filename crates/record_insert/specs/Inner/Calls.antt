-- `insert` on columns of n rows, and on a table of records. Assumes nothing.
-- Here: what only inner contracts cite.
use Rattle.basics.specs.Words.{ℕ}
use Rattle.geometry.specs.declared.Position.{Position}
use Rattle.replies.specs.declared.Inserted.{Inserted}
use Rattle.replies.specs.Meaning.Replies.{inserted}
use Rattle.point_tables.specs.Meaning.Tables.{Tables}
use Rattle.point_tables.specs.Meaning.Outcome.{Outcome}
use Rattle.point_insert.specs.Meaning.Insert.{insert_of}
use Rattle.records.specs.Meaning.Seen.{fitted}

abbrev pub insert_for : ℕ → Tables → Position → ℕ → ℕ → Outcome Inserted
insert_for n t at obj k = fitted (λ u. insert_of u at obj k) (inserted 3 0 0) n t
