-- Assumes nothing.
use Rattle.basics.specs.Words.{arith}
use Rattle.trace_printing.proofs.laws.Puts.{puts_then}
use Rattle.trace_printing.proofs.put_corners.Goals as goal

pub returns : goal.returns
returns c = puts_then c.put_corner-next.ensures (omega arith) c.put_corner.ensures
