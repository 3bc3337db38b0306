-- Assumes nothing.
use Rattle.basics.specs.Words.{arith}
use Rattle.trace_printing.proofs.laws.Puts.{puts_then}
use Rattle.trace_printing.proofs.put_corner.Goals as goal

pub returns : goal.returns
returns c = puts_then c.put_coordinate-next.ensures (omega arith) c.put_coordinate.ensures
