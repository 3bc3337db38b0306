-- Assumes nothing.
use Rattle.basics.specs.Words.{arith}
use Rattle.trace_decimals.proofs.laws.TextLaws.{number-length}
use Rattle.trace_decimals.proofs.laws.WrittenLaws.{next_is}
use Rattle.trace_printing.proofs.laws.Puts.{puts_is, puts_then}
use Rattle.trace_printing.proofs.put_number.Goals as goal

pub put_number-requires : goal.put_number-requires
put_number-requires c = omega (arith, next_is _ _ _ c.put_byte-next.ensures)

pub returns : goal.returns
returns c =
    puts_then
    (puts_is 1 c.put_byte-next.ensures (omega arith))
    (omega arith)
    (puts_is 10 c.put_number.ensures (number-length c.args.n (omega arith)))
