-- What calls return, made of its numbers. Assumes nothing.
use Rattle.basics.specs.Words.{ℕ}
use Rattle.replies.specs.declared.Reply.{Reply}
use Rattle.replies.specs.declared.Count.{Count}
use Rattle.replies.specs.declared.Inserted.{Inserted}

abbrev pub reply : ℕ → ℕ → Reply
reply a d = record { answer = a; obj = d }

abbrev pub count : ℕ → ℕ → Count
count a n = record { answer = a; count = n }

abbrev pub inserted : ℕ → ℕ → ℕ → Inserted
inserted a s v = record { answer = a; handle = record { slot = s; version = v } }
