-- The whole number, divided. Assumes nothing.
use lib.Ieee.{of_bits}
use mir.Syntax.{w32}
use Rattle.std.proofs.lemmas.Int.{to_z-of_z}
use Rattle.trace_sixteenths.proofs.laws.SixteenthLaws.{from_whole}
use Rattle.trace_sixteenths.proofs.from_sixteenths.Goals as goal

pub returns : goal.returns
unfolding of_bits
returns c = rw (to_z-of_z w32 c.args.k c.ranges.k) (from_whole c.args.k c.requires)
