-- The request that a record reads as: the first field is its word, and the fields behind it are what the word asks for, no more and no fewer.
-- Assumes nothing.
use Rattle.std.specs.Prelude.{◌∷◌}
use Rattle.basics.specs.Words.{ℕ, List, [], length, leb, ℤ, pos}
use Rattle.basics.specs.Meaning.Refusals.{pick}
use Rattle.slots.specs.declared.Handle.{Handle}
use Rattle.trace_lines.specs.declared.Spot.{Spot}
use Rattle.trace_lines.specs.declared.Line.{Line}
use Rattle.trace_lines.specs.declared.Line.TheVariants.{Unreadable}
use Rattle.trace_lines.specs.declared.Asks.{Asks}
use Rattle.trace_lines.specs.declared.Request.{Request}
use Rattle.trace_lines.specs.Meaning.Fields.{fields_of}
use Rattle.trace_lines.specs.Meaning.Words.{asked_by}
use Rattle.trace_lines.specs.Meaning.Taken.{Taken, taken, missing, Taker, both, made, take_number, take_count, take_handle, if_asked, nobody, no_spot}
use Rattle.trace_lines.specs.Meaning.Taken.{take_places}

-- a handle, two places, a radius, a number and a tracker
abbrev pub Arguments : Type 0
Arguments = (((Handle × (Spot × Spot)) × ℤ) × ℕ) × ℕ

abbrev pub request : Line → Arguments → Request
request line a =
    record { line = line; h = a.0.0.0.0; p = a.0.0.0.1.0; q = a.0.0.0.1.1; far = a.0.0.1; n = a.0.1; k = a.1 }

abbrev pub unreadable : Request
unreadable = request Unreadable ((((nobody, (no_spot, no_spot)), pos 0), 0), 0)

-- what is asked for, in this order
abbrev pub take_arguments : Asks → Taker Arguments
take_arguments k =
    both
    (both (both (both (if_asked k.handle nobody take_handle) (take_places k.places)) (if_asked k.radius (pos 0) take_count)) (if_asked k.number 0 take_number))
    (if_asked k.tracker 0 take_number)

unfoldable pub arguments_of : Asks → Taker Request
arguments_of k = made (request k.line) (take_arguments k)

-- no field may be left
abbrev pub whole : Taken Request → Request
whole (taken r []) = r
whole (taken r (f ∷ fs)) = unreadable
whole missing = unreadable

unfoldable pub of_fields : List (List ℕ) → Request
of_fields [] = unreadable
of_fields (w ∷ fs) = whole (arguments_of (asked_by w) fs)

unfoldable pub request_of : List ℕ → Request
request_of bytes = pick (leb (length bytes) 128) (of_fields (fields_of bytes)) unreadable
