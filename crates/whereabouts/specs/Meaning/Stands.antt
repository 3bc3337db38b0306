-- After deferred calls and maintain the points are those that were there before and were not removed, with their data and trackers, each where
-- its last accepted call sent it, or where it was. Assumes nothing.
use Rattle.basics.specs.Words.{List}
use Rattle.point_tables.specs.Meaning.Tables.{Tables}
use Rattle.point_tables.specs.Meaning.Outcome.{Outcome}
use Rattle.point_deferred.specs.Meaning.Calls.{Call, tables_after}
use Rattle.point_maintain.specs.declared.Maintained.{Maintained}
use Rattle.point_maintain.specs.Meaning.Maintain.{maintain_of}

-- ---- the deferred calls cs on such tables, and the next maintain
abbrev pub next_maintain : Tables → List Call → Outcome Maintained
next_maintain t cs = maintain_of (tables_after t cs)
