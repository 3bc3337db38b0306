-- `query_around` on columns of n rows, and on a table of records. Assumes nothing.
-- Here: what only inner contracts cite.
use Rattle.basics.specs.Words.{ℕ}
use Rattle.std.specs.Prelude.{Float}
use Rattle.geometry.specs.declared.Position.{Position}
use Rattle.replies.specs.Meaning.Replies.{count}
use Rattle.point_tables.specs.Meaning.Tables.{Tables}
use Rattle.point_search.specs.Meaning.Searches.{Outputs, Findings, findings}
use Rattle.point_query.specs.Meaning.Queries.{around_of}
use Rattle.records.specs.Meaning.Seen.{sized}

-- the outputs stay as they are where it is refused
abbrev pub around_for : ℕ → Tables → Position → Float → Outputs → Findings
around_for n t c r o = sized n t (around_of t c r o) (findings (count 3 0) o)
