-- Splitting byte by byte with room for few: the first `room` bytes since the last line end are kept, and whether the last of all is a CR.
-- Of a record the first room - 1 bytes are handed out, so one that is longer than it may be is still seen to be. Assumes nothing.
-- Here: the laws.
use Rattle.basics.specs.Words.{ℕ, List, [], ◌∷◌, ◌++◌}
use Rattle.trace_splits.specs.Meaning.Sofar.{Sofar, feed}
use Rattle.trace_splits.specs.Inner.Sofar.{finished}

-- all records of an input, byte by byte
abbrev pub records_from : ℕ → Sofar → List ℕ → List (List ℕ)
records_from room s [] = (finished room s).out
records_from room s (b ∷ rest) = (feed room s b).out ++ records_from room (feed room s b).next rest

-- a part of an input: the records that it ends, and the bytes so far after it
abbrev pub handed_out : ℕ → Sofar → List ℕ → List (List ℕ)
handed_out room s [] = []
handed_out room s (b ∷ rest) = (feed room s b).out ++ handed_out room (feed room s b).next rest

abbrev pub sofar_after : ℕ → Sofar → List ℕ → Sofar
sofar_after room s [] = s
sofar_after room s (b ∷ rest) = sofar_after room (feed room s b).next rest
