-- What the calls of the point grid tell, with the lent outputs after them. Assumes nothing.
use Rattle.basics.specs.Words.{ℕ, List}
use Rattle.std.specs.Prelude.{Float}
use Rattle.point_batch.specs.Meaning.Batch.{Batched, batched}
use Rattle.point_clear.specs.Meaning.Clear.{Written, wrote}
use Rattle.point_maintain.specs.declared.Maintained as Settled
use Rattle.point_maintain.specs.Meaning.Maintain.{maintained_counts}
use Rattle.replies.specs.declared.Nearest as Closest
use Rattle.exports.specs.declared.BatchReply.{BatchReply}
use Rattle.exports.specs.declared.Count.{Count}
use Rattle.exports.specs.declared.Maintained.{Maintained}
use Rattle.exports.specs.declared.Nearest.{Nearest}
use Rattle.exports.specs.Meaning.Made.{handle, position}
use Rattle.exports.specs.Meaning.Told.{told_count}

abbrev pub told_batched : BatchReply → List (List ℕ) → Batched
told_batched r out = batched r.answer r.count out

abbrev pub told_maintained : Maintained → Settled.Maintained
told_maintained r = maintained_counts r.answer r.moved r.removed

abbrev pub told_written : Count → List (List Float) → List (List ℕ) → Written
told_written r places objs = wrote (told_count r) places objs

abbrev pub told_nearest : Nearest → Closest.Nearest
told_nearest r =
    record {
      answer = r.answer;
      count = r.count;
      handle = handle r.slot r.version;
      position = position r.x r.y;
      obj = r.obj;
      tracker = r.tracker;
    }
