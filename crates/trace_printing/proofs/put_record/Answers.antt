-- Assumes nothing.
use Rattle.basics.specs.Words.{refl, arith}
use Rattle.trace_decimals.proofs.laws.WrittenLaws.{next_is}
use Rattle.trace_printing.specs.Meaning.Said.{record_text}
use Rattle.trace_printing.proofs.laws.Puts.{puts_is, puts_then, puts_as}
use Rattle.trace_printing.proofs.put_record.Goals as goal

pub put_byte-requires : goal.put_byte-requires
put_byte-requires c = omega (arith, next_is _ _ _ c.put_byte-end.ensures, c.put_said-next.ensures.short)

pub returns : goal.returns
unfolding record_text
returns c =
    let ending = puts_then (puts_is 1 c.put_byte-end.ensures (omega arith)) (omega arith) (puts_is 1 c.put_byte.ensures (omega arith)) in
    puts_as (puts_then c.put_said-next.ensures (omega arith) ending) refl (omega arith)
