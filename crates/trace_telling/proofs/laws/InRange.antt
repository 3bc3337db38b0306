-- The places and the radius of a request are in the range of the trace. Assumes nothing.
-- Here: the laws.
use Rattle.basics.specs.Words.{ℕ, sym, subst, Bool, true, false, List, ltb, ℤ, pos, negsuc, arith}
use mir.Syntax.{w32}
use mir.Val.{SFits}
use Rattle.trace_lines.specs.declared.Asks.{Asks}
use Rattle.trace_lines.specs.declared.Request.{Request}
use Rattle.trace_lines.specs.Meaning.Words.{asked_by}
use Rattle.trace_lines.specs.Meaning.Taken.{no_spot}
use Rattle.trace_lines.specs.Inner.Texts.{SpotInRange, CountInRange, AsAsked, ArgumentsInRange}
use Rattle.trace_lines.specs.Meaning.Requests.{request_of}
use Rattle.trace_lines.proofs.laws.ReadLaws.{by_text}
use Rattle.trace_telling.specs.Inner.InRange.{InRange}

-- what is not asked for is zero, which is in range
as_asked : {A : Type 0} (R : A → Type 0) (asked : Bool) (none a : A) → R none → AsAsked asked R none a → R a
as_asked R true none a z h = h
as_asked R false none a z h = subst R (sym h) z

zero_in_range : CountInRange (pos 0)
zero_in_range = omega arith

asked_in_range : (k : Asks) (r : Request) → ArgumentsInRange k r → InRange r
asked_in_range k r h =
    let o : SpotInRange no_spot = (zero_in_range, zero_in_range) in
    ((as_asked SpotInRange (ltb 0 k.places) no_spot r.p o h.0.0.0.1.0, as_asked SpotInRange (ltb 1 k.places) no_spot r.q o h.0.0.0.1.1), as_asked CountInRange k.radius (pos 0) r.far zero_in_range h.0.0.1)

-- whatever is read is in range
pub read_in_range : (bytes : List ℕ) → InRange (request_of bytes)
read_in_range bytes =
    by_text InRange (((zero_in_range, zero_in_range), (zero_in_range, zero_in_range)), zero_in_range) bytes (λ r t. asked_in_range (asked_by t.word) r t.proper.1)

-- a count in range is one of 32 bits
pub in_range_fits : (k : ℤ) → CountInRange k → SFits w32 k
in_range_fits (pos n) h = record { sfits = omega arith }
in_range_fits (negsuc n) h = record { sfits = omega arith }
