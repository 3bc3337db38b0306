-- `set_position` and `remove` on columns of n rows, and on a table of records. Assumes nothing.
use Rattle.basics.specs.Words.{ℕ, List}
use Rattle.geometry.specs.declared.Position.{Position}
use Rattle.slots.specs.declared.Handle.{Handle}
use Rattle.replies.specs.declared.Reply.{Reply}
use Rattle.replies.specs.Meaning.Replies.{reply}
use Rattle.point_records.specs.declared.Record.{Record}
use Rattle.point_tables.specs.Meaning.Tables.{Tables}
use Rattle.point_deferred.specs.Meaning.Moves.{set_position_of, remove_of}
use Rattle.records.specs.Meaning.Seen.{Seen, on_records}

abbrev pub set_position_on : List Record → Tables → Handle → Position → ℕ → Seen Reply
set_position_on rs t h at k = on_records (λ u. set_position_of u h at k) (reply 3 0) rs t

abbrev pub remove_on : List Record → Tables → Handle → ℕ → Seen Reply
remove_on rs t h k = on_records (λ u. remove_of u h k) (reply 3 0) rs t
