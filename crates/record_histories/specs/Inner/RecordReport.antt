-- What a circle reports on a table of records after deferred calls and maintain. Assumes nothing.
use Rattle.std.specs.Prelude.{◌∷◌, ◌++◌, Float}
use Rattle.basics.specs.Words.{List, [], map, eqb}
use Rattle.basics.specs.Meaning.Refusals.{pick}
use Rattle.geometry.specs.declared.Position.{Position}
use Rattle.point_records.specs.declared.Record.{Record}
use Rattle.point_tables.specs.Meaning.Tables.{Tables}
use Rattle.point_deferred.specs.Meaning.Calls.{Call as Deferred}
use Rattle.point_search.specs.Meaning.Searches.{Outputs, Findings}
use Rattle.record_query.specs.Meaning.Calls.{around_on}
use Rattle.record_histories.specs.Inner.RecordHistory.{RecordCall, set_position, remove, maintain, table_after, besides_after}

-- kind 0 is `set_position`, any other `remove`
abbrev pub deferred : Deferred → RecordCall
deferred c = pick (eqb c.kind 0) (set_position c.handle c.at c.tracker) (remove c.handle c.tracker)

-- deferred calls, and maintain
abbrev pub frame : List Deferred → List RecordCall
frame cs = map deferred cs ++ (maintain ∷ [])

abbrev pub report_after : List Record → Tables → List Deferred → Position → Float → Outputs → Findings
report_after rs t cs c r o = (around_on (table_after (frame cs) rs t) (besides_after (frame cs) rs t) c r o).result
