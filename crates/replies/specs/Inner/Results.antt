-- What a call returns, by whether it is refused: a refusal returns its number and zeros. Assumes nothing.
use Rattle.std.specs.Prelude.{Result, Ok, Err}
use Rattle.basics.specs.Words.{ℕ}
use Rattle.basics.specs.declared.Refusal.{Refusal}
use Rattle.basics.specs.Meaning.Answers.{number_of}
use Rattle.slots.specs.declared.Handle.{Handle}
use Rattle.replies.specs.declared.Reply.{Reply}
use Rattle.replies.specs.declared.Count.{Count}
use Rattle.replies.specs.declared.Inserted.{Inserted}
use Rattle.replies.specs.Meaning.Replies.{reply, count, inserted}

abbrev pub reply_of : Result ℕ Refusal → Reply
reply_of (Ok obj) = reply 0 obj
reply_of (Err why) = reply (number_of why) 0

abbrev pub count_of : Result ℕ Refusal → Count
count_of (Ok n) = count 0 n
count_of (Err why) = count (number_of why) 0

abbrev pub inserted_of : Result Handle Refusal → Inserted
inserted_of (Ok h) = inserted 0 h.slot h.version
inserted_of (Err why) = inserted (number_of why) 0 0
