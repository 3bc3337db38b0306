-- Assumes nothing.
use Rattle.basics.specs.Words.{arith}
use Rattle.trace_printing.proofs.laws.Puts.{puts_then}
use Rattle.trace_printing.proofs.put_point.Goals as goal

pub returns : goal.returns
returns c = puts_then c.put_pair-next.ensures (omega arith) (puts_then c.put_corner-end.ensures (omega arith) c.put_pair.ensures)
