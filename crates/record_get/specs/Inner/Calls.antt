-- `get` and `len` on columns of n rows, and on a table of records. Assumes nothing.
-- Here: what only inner contracts cite.
use Rattle.basics.specs.Words.{ℕ}
use Rattle.slots.specs.declared.Handle.{Handle}
use Rattle.replies.specs.declared.Count.{Count}
use Rattle.replies.specs.Meaning.Replies.{count}
use Rattle.point_tables.specs.Meaning.Tables.{Tables}
use Rattle.point_get.specs.declared.Got.{Got}
use Rattle.point_get.specs.Meaning.{got, get_of, len_of}
use Rattle.geometry.specs.Meaning.Zero.{zero-position}
use Rattle.records.specs.Meaning.Seen.{sized}

abbrev pub get_for : ℕ → Tables → Handle → Got
get_for n t h = sized n t (get_of t h) (got 3 zero-position 0 0)

abbrev pub len_for : ℕ → Tables → Count
len_for n t = sized n t (len_of t) (count 3 0)
