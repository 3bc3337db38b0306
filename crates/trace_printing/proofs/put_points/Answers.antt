-- Assumes nothing.
use Rattle.basics.specs.Words.{sym, ap, add-one, arith}
use Rattle.trace_printing.specs.Meaning.Said.{points_text}
use Rattle.trace_printing.proofs.laws.Puts.{puts_none, puts_then, puts_as}
use Rattle.trace_printing.proofs.put_points.Goals as goal

pub loop-i-init : goal.loop-i-init
loop-i-init c = puts_none _ _

pub loop-i-preserved : goal.loop-i-preserved
loop-i-preserved c =
    puts_as
    (puts_then c.loop-i.invariant (omega arith) c.put_point-next.ensures)
    (ap (points_text c.args.handles.now c.args.places.now c.args.objs.now) (sym (add-one c.loop-i.i)))
    (omega arith)
