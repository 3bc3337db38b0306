-- the inner call puts n / 10, which is less
use Rattle.trace_decimals.proofs.+put_digits.Given as goal

abbrev pub decreases-put_digits : goal.decreases-put_digits
decreases-put_digits l = l.n
