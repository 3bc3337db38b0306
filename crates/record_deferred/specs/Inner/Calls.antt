-- `set_position` and `remove` on columns of n rows, and on a table of records. Assumes nothing.
-- Here: what only inner contracts cite.
use Rattle.basics.specs.Words.{ℕ}
use Rattle.geometry.specs.declared.Position.{Position}
use Rattle.slots.specs.declared.Handle.{Handle}
use Rattle.replies.specs.declared.Reply.{Reply}
use Rattle.replies.specs.Meaning.Replies.{reply}
use Rattle.point_tables.specs.Meaning.Tables.{Tables}
use Rattle.point_tables.specs.Meaning.Outcome.{Outcome}
use Rattle.point_deferred.specs.Meaning.Moves.{set_position_of, remove_of}
use Rattle.records.specs.Meaning.Seen.{fitted}

abbrev pub set_position_for : ℕ → Tables → Handle → Position → ℕ → Outcome Reply
set_position_for n t h at k = fitted (λ u. set_position_of u h at k) (reply 3 0) n t

abbrev pub remove_for : ℕ → Tables → Handle → ℕ → Outcome Reply
remove_for n t h k = fitted (λ u. remove_of u h k) (reply 3 0) n t
