-- The text has at most 10 digits. Assumes nothing.
use Rattle.basics.specs.Words.{arith}
use Rattle.trace_decimals.proofs.laws.TextLaws.{number-length}
use Rattle.trace_printing.proofs.laws.Puts.{puts_is}
use Rattle.trace_printing.proofs.put_first.Goals as goal

pub returns : goal.returns
returns c = puts_is 10 c.put_number.ensures (number-length c.args.n (omega arith))
