-- How long the text of a coordinate can be: a minus and 10 digits. Assumes nothing.
use Rattle.basics.specs.Words.{suc, ◌≤◌, length, ℤ, pos, negsuc, arith}
use lib.Ieee.{Float}
use lib.Ieee.Casts.{to_signed_in}
use mir.Syntax.{w32}
use mir.Val.{SFits}
use Rattle.trace_decimals.specs.Meaning.Text.{signed_text}
use Rattle.trace_decimals.proofs.laws.TextLaws.{number-length}
use Rattle.trace_sixteenths.specs.Meaning.Sixteenth.{sixteenths_of}

pub count_fits : (x : Float) → SFits w32 (sixteenths_of x)
unfolding sixteenths_of
count_fits x = record { sfits = to_signed_in 31 _ }

signed_length : (k : ℤ) → SFits w32 k → length (signed_text k) ≤ 11
unfolding signed_text
signed_length (pos n) f = omega (arith, number-length n (omega (arith, f.sfits)))
signed_length (negsuc n) f = omega (arith, number-length (suc n) (omega (arith, f.sfits)))

pub coordinate_length : (x : Float) → length (signed_text (sixteenths_of x)) ≤ 11
coordinate_length x = signed_length (sixteenths_of x) (count_fits x)
