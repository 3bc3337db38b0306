-- The fields from a place on, for code that walks a record, and what a taker of the code took. Assumes nothing.
use Rattle.std.specs.Prelude.{Option, Some, None}
use Rattle.basics.specs.Words.{ℕ, List, [], length, drop, leb}
use Rattle.basics.specs.Meaning.Refusals.{pick}
use Rattle.trace_lines.specs.Meaning.Fields.{fields_of}
use Rattle.trace_lines.specs.Meaning.Taken.{Taken, taken, missing}

-- past the end there is no field
unfoldable pub fields_from : List ℕ → ℕ → List (List ℕ)
fields_from bytes at = pick (leb at (length bytes)) (fields_of (drop at bytes)) []

-- what a taker of the code took, and the place of the next field
abbrev pub taken_at : {A : Type 0} → List ℕ → Option (A × ℕ) → Taken A
taken_at bytes (Some t) = taken t.0 (fields_from bytes t.1)
taken_at bytes None = missing
