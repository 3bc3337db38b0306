-- `query_around` on columns of n rows, and on a table of records. Assumes nothing.
use Rattle.std.specs.Prelude.{◌≡◌, Float}
use Rattle.basics.specs.Words.{List}
use Rattle.geometry.specs.declared.Position.{Position}
use Rattle.replies.specs.declared.Count.{Count}
use Rattle.replies.specs.Meaning.Replies.{count}
use Rattle.point_records.specs.declared.Record.{Record}
use Rattle.point_tables.specs.Meaning.Tables.{Tables}
use Rattle.point_tables.specs.Meaning.Outcome.{Outcome, outcome}
use Rattle.point_search.specs.Meaning.Searches.{Outputs, Findings, findings}
use Rattle.point_query.specs.Meaning.Queries.{around_of}
use Rattle.records.specs.Meaning.Seen.{read_records}

abbrev pub around_on : List Record → Tables → Position → Float → Outputs → Outcome Findings
around_on rs t c r o = read_records (λ u. around_of u c r o) (findings (count 3 0) o) rs t

-- what is returned, the outputs o' and the tables t' after the call are what `query` gives of records, tables t and outputs o before it
abbrev pub FindsIn : (List Record → Tables → Outputs → Outcome Findings) → Count → List Record → Tables → Outputs → Outputs → Tables → Type 0
FindsIn query r records t o o' t' = outcome (findings r o') t' ≡ query records t o
