-- The text has at most 10 digits. Assumes nothing.
use Rattle.basics.specs.Words.{arith}
use Rattle.trace_decimals.proofs.laws.TextLaws.{number-length}
use Rattle.trace_decimals.proofs.put_number.Goals as goal

pub put_digits-requires : goal.put_digits-requires
put_digits-requires c = omega (arith, number-length c.args.n (omega arith))
