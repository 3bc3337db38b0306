-- `get` and `len` on columns of n rows, and on a table of records. Assumes nothing.
use Rattle.basics.specs.Words.{List}
use Rattle.slots.specs.declared.Handle.{Handle}
use Rattle.replies.specs.declared.Count.{Count}
use Rattle.replies.specs.Meaning.Replies.{count}
use Rattle.point_records.specs.declared.Record.{Record}
use Rattle.point_tables.specs.Meaning.Tables.{Tables}
use Rattle.point_tables.specs.Meaning.Outcome.{Outcome}
use Rattle.point_get.specs.declared.Got.{Got}
use Rattle.point_get.specs.Meaning.{got, get_of, len_of}
use Rattle.geometry.specs.Meaning.Zero.{zero-position}
use Rattle.records.specs.Meaning.Seen.{read_records}

abbrev pub get_on : List Record → Tables → Handle → Outcome Got
get_on rs t h = read_records (λ u. get_of u h) (got 3 zero-position 0 0) rs t

abbrev pub len_on : List Record → Tables → Outcome Count
len_on rs t = read_records len_of (count 3 0) rs t
