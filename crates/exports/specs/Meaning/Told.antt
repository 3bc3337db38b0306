-- What the structs of numbers tell, as what the calls return. Assumes nothing.
use Rattle.replies.specs.declared.Reply as Replied
use Rattle.replies.specs.declared.Count as Counted
use Rattle.replies.specs.declared.Inserted as Entered
use Rattle.replies.specs.Meaning.Replies.{reply, count, inserted}
use Rattle.exports.specs.declared.Reply.{Reply}
use Rattle.exports.specs.declared.Count.{Count}
use Rattle.exports.specs.declared.Inserted.{Inserted}

abbrev pub told_inserted : Inserted → Entered.Inserted
told_inserted r = inserted r.answer r.slot r.version

abbrev pub told_reply : Reply → Replied.Reply
told_reply r = reply r.answer r.obj

abbrev pub told_count : Count → Counted.Count
told_count r = count r.answer r.count
