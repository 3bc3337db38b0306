-- Assumes nothing.
use Rattle.basics.specs.Words.{arith}
use Rattle.trace_printing.proofs.laws.Puts.{puts_then}
use Rattle.trace_printing.proofs.put_pair.Goals as goal

pub returns : goal.returns
returns c = puts_then c.put_number-next.ensures (omega arith) c.put_number.ensures
