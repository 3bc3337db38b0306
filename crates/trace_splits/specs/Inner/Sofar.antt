-- Splitting byte by byte with room for few: the first `room` bytes since the last line end are kept, and whether the last of all is a CR.
-- Of a record the first room - 1 bytes are handed out, so one that is longer than it may be is still seen to be. Assumes nothing.
-- Here: what only inner contracts cite.
use Rattle.std.specs.Prelude.{◌-◌, ◌∷◌}
use Rattle.basics.specs.Words.{ℕ, List, [], length, take, eqb}
use Rattle.basics.specs.Meaning.Refusals.{pick}
use Rattle.trace_splits.specs.declared.Stepped.{Stepped}
use Rattle.trace_splits.specs.Meaning.Sofar.{Sofar, Fed, begun, sofar, kept_of}

-- at the input's end the bytes so far are a record, if there are any
abbrev pub finished : ℕ → Sofar → Fed
finished room s = record { next = begun; out = pick (eqb (length s.kept) 0) [] (take (room - 1) s.kept ∷ []) }

abbrev pub fed : List ℕ → Stepped → Fed
fed line r = record { next = sofar line r.state; out = kept_of line r.ended }
