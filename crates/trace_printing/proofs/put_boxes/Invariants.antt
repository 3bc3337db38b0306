-- `trace_printing::put_boxes`: the findings so far are put. Assumes nothing.
use Rattle.basics.specs.Words.{◌*◌}
use Rattle.trace_printing.specs.Meaning.Said.{boxes_text}
use Rattle.trace_printing.specs.Inner.Puts.{Puts}
use Rattle.trace_printing.proofs.put_boxes.Given as goal

abbrev pub invariant-loop-i : goal.invariant-loop-i
invariant-loop-i l = Puts l.fn.out l.at l.out l.next (boxes_text l.handles l.boxes l.i) (l.i * 70)
