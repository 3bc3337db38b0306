-- Assumes nothing.
use Rattle.basics.specs.Words.{◌∙◌, rules}
use lib.Ieee.{of_bits}
use mir.Syntax.{w32}
use Rattle.std.proofs.lemmas.Int.{to_z-of_z}
use Rattle.trace_sixteenths.specs.Meaning.Sixteenth.{sixteenths_of}
use Rattle.trace_sixteenths.proofs.sixteenths.Goals as goal

pub returns : goal.returns
unfolding sixteenths_of of_bits
returns c = to_z-of_z w32 c.whole.result (search rules) ∙ c.whole.ensures
