-- Splitting byte by byte with room for few: the first `room` bytes since the last line end are kept, and whether the last of all is a CR.
-- Of a record the first room - 1 bytes are handed out, so one that is longer than it may be is still seen to be. Assumes nothing.
use Rattle.std.specs.Prelude.{◌-◌, ◌&&◌, ◌∷◌, ◌++◌, Option, Some, None}
use Rattle.basics.specs.Words.{ℕ, Bool, false, List, [], length, take, eqb}
use Rattle.basics.specs.Meaning.Refusals.{pick}
use Rattle.trace_splits.specs.declared.Splitter.{Splitter}
use Rattle.trace_splits.specs.Meaning.Records.{cr, lf}

pub record Sofar : Type 0 where
  pub kept : List ℕ
  pub returned : Bool

-- what a byte leads to: the bytes so far after it, and the record that it ends, if it ends one
pub record Fed : Type 0 where
  pub next : Sofar
  pub out : List (List ℕ)

abbrev pub begun : Sofar
begun = record { kept = []; returned = false }

-- the LF of a CR LF ends the record without the CR; any other byte is one more
abbrev pub feed : ℕ → Sofar → ℕ → Fed
feed room s b =
    pick (s.returned && eqb b lf)
    (record { next = begun; out = take (length s.kept - 1) s.kept ∷ [] })
    (record { next = record { kept = take room (s.kept ++ b ∷ []); returned = eqb b cr }; out = [] })

-- what the line and the numbers of the code say
abbrev pub sofar : List ℕ → Splitter → Sofar
sofar line s = record { kept = take s.len line; returned = s.cr }

-- the record that ended, if one did: so many of the line's first bytes
abbrev pub kept_of : List ℕ → Option ℕ → List (List ℕ)
kept_of line None = []
kept_of line (Some len) = take len line ∷ []
