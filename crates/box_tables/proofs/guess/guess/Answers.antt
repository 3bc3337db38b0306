-- Assumes nothing.
use Rattle.basics.specs.Words.{T}
use lib.Ieee.{binary32, of_bits}
use lib.Ieee.Scale.{finite}
use Rattle.box_tables.proofs.laws.NumberLaws.{guess_number}
use Rattle.box_tables.proofs.guess.guess.Goals as goal

-- 0.5 and 12,582,912
less-finite : T (finite (of_bits binary32 1056964608))
unfolding of_bits
less-finite = tt

middle-finite : T (finite (of_bits binary32 1262485504))
unfolding of_bits
middle-finite = tt

pub float_to_bits-t : goal.float_to_bits-t
float_to_bits-t c = guess_number c.args.x c.args.rate _ _ c.requires.1 c.requires.0 less-finite middle-finite
