-- The binary32 number of a count of sixteenths, and the count of one. Assumes nothing.
use Rattle.basics.specs.Words.{Bool, true, false, ℤ, pos, negsuc, nat_abs}
use Rattle.std.specs.Prelude.{Float}
use Rattle.std.specs.Float.{fin, binary32}
use Rattle.std.specs.Float.Ieee.{round, mul}
use Rattle.cells.specs.Meaning.CellRule.{whole_of}

abbrev pub below_zero : ℤ → Bool
below_zero (pos n) = false
below_zero (negsuc n) = true

-- k / 16, rounded once; 0 gives +0.0
unfoldable pub sixteenth : ℤ → Float
unfolding round
sixteenth k = round binary32 (below_zero k) (nat_abs k) 16

-- how many sixteenths there are in x; what is finer is dropped, toward zero
unfoldable pub sixteenths_of : Float → ℤ
unfolding mul
sixteenths_of x = whole_of (mul binary32 x (fin false 1 (pos 4)))
