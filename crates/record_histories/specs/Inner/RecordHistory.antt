-- A history: calls one after the other, on the tables of a point grid, and on a table of records beside tables whose columns are scratch.
-- Assumes nothing.
-- Here: what only inner contracts cite.
use Rattle.std.specs.Prelude.{◌≡◌, ◌∷◌, Float}
use Rattle.basics.specs.Words.{ℕ, List, [], length}
use Rattle.geometry.specs.declared.Position.{Position}
use Rattle.slots.specs.declared.Handle.{Handle}
use Rattle.replies.specs.declared.Reply.{Reply}
use Rattle.replies.specs.declared.Inserted.{Inserted}
use Rattle.replies.specs.declared.Count.{Count}
use Rattle.point_records.specs.declared.Record.{Record}
use Rattle.point_tables.specs.Meaning.Tables.{Tables, slots_of}
use Rattle.point_tables.specs.Meaning.Holds.{Holds}
use Rattle.point_tables.specs.Meaning.Outcome.{Outcome, outcome}
use Rattle.point_deferred.specs.Meaning.Moves.{set_position_of, remove_of}
use Rattle.point_insert.specs.Meaning.Insert.{insert_of}
use Rattle.point_maintain.specs.declared.Maintained.{Maintained}
use Rattle.point_maintain.specs.Meaning.Maintain.{maintain_of}
use Rattle.point_get.specs.declared.Got.{Got}
use Rattle.point_get.specs.Meaning.{get_of, len_of}
use Rattle.point_search.specs.Meaning.Searches.{Outputs, Findings}
use Rattle.point_query.specs.Meaning.Queries.{around_of}
use Rattle.records.specs.Meaning.Spread.{besides}
use Rattle.records.specs.Meaning.Seen.{Seen, seen}
use Rattle.records.specs.Inner.Alike.{Alike}
use Rattle.record_deferred.specs.Meaning.Calls.{set_position_on, remove_on}
use Rattle.record_insert.specs.Meaning.Calls.{insert_on}
use Rattle.record_maintain.specs.Meaning.Calls.{maintain_on}
use Rattle.record_get.specs.Meaning.Calls.{get_on, len_on}
use Rattle.record_query.specs.Meaning.Calls.{around_on}

-- a call with all that it is handed besides the tables: what changes one point ends with its tracker
pub data RecordCall : Type 0 where
  insert : Position → ℕ → ℕ → RecordCall
  set_position : Handle → Position → ℕ → RecordCall
  remove : Handle → ℕ → RecordCall
  maintain : RecordCall
  get : Handle → RecordCall
  len : RecordCall
  around : Position → Float → Outputs → RecordCall

-- what a call gives back
pub data Given : Type 0 where
  entered : Inserted → Given
  replied : Reply → Given
  settled : Maintained → Given
  got : Got → Given
  counted : Count → Given
  found : Findings → Given

-- ---- on columns: a call that reads leaves the tables as they are
abbrev given : {R : Type 0} → (R → Given) → Outcome R → Outcome Given
given say o = outcome (say o.result) o.after

unfoldable pub on_columns : RecordCall → Tables → Outcome Given
on_columns (insert p d k) t = given entered (insert_of t p d k)
on_columns (set_position h p k) t = given replied (set_position_of t h p k)
on_columns (remove h k) t = given replied (remove_of t h k)
on_columns maintain t = given settled (maintain_of t)
on_columns (get h) t = outcome (got (get_of t h)) t
on_columns len t = outcome (counted (len_of t)) t
on_columns (around c r o) t = outcome (found (around_of t c r o)) t

-- ---- on records: a call that reads leaves them as they are
abbrev changed : {R : Type 0} → (R → Given) → Seen R → Seen Given
changed say o = seen (say o.result) o.records o.after

abbrev read : {R : Type 0} → (R → Given) → List Record → Outcome R → Seen Given
read say rs o = seen (say o.result) rs o.after

unfoldable pub on_table : RecordCall → List Record → Tables → Seen Given
on_table (insert p d k) rs t = changed entered (insert_on rs t p d k)
on_table (set_position h p k) rs t = changed replied (set_position_on rs t h p k)
on_table (remove h k) rs t = changed replied (remove_on rs t h k)
on_table maintain rs t = changed settled (maintain_on rs t)
on_table (get h) rs t = read got rs (get_on rs t h)
on_table len rs t = read counted rs (len_on rs t)
on_table (around c r o) rs t = read found rs (around_on rs t c r o)

unfoldable pub record_answers : List RecordCall → List Record → Tables → List Given
record_answers [] rs t = []
record_answers (c ∷ cs) rs t = (on_table c rs t).result ∷ record_answers cs (on_table c rs t).records (on_table c rs t).after

-- the records and the tables beside them
unfoldable pub table_after : List RecordCall → List Record → Tables → List Record
table_after [] rs t = rs
table_after (c ∷ cs) rs t = table_after cs (on_table c rs t).records (on_table c rs t).after

unfoldable pub besides_after : List RecordCall → List Record → Tables → Tables
besides_after [] rs t = t
besides_after (c ∷ cs) rs t = besides_after cs (on_table c rs t).records (on_table c rs t).after

-- ---- the records rs beside the tables t are the grid of the tables u: u holds it, and every slot has the same record
pub record SameGrid (rs : List Record) (t u : Tables) : Type 0 where
  pub holds : Holds u
  pub many : slots_of u ≡ length rs
  pub alike : Alike u (besides rs t)
