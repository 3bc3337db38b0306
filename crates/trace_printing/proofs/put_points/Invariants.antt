-- `trace_printing::put_points`: the findings so far are put. Assumes nothing.
use Rattle.basics.specs.Words.{◌*◌}
use Rattle.trace_printing.specs.Meaning.Said.{points_text}
use Rattle.trace_printing.specs.Inner.Puts.{Puts}
use Rattle.trace_printing.proofs.put_points.Given as goal

abbrev pub invariant-loop-i : goal.invariant-loop-i
invariant-loop-i l = Puts l.fn.out l.at l.out l.next (points_text l.handles l.places l.objs l.i) (l.i * 68)
