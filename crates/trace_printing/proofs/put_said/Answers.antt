-- By what there is to tell. Assumes nothing.
use Rattle.basics.specs.Words.{refl, append_assoc, arith}
use Rattle.trace_printing.specs.Meaning.Said.{said_text}
use Rattle.trace_printing.proofs.laws.Puts.{puts_then, puts_as}
use Rattle.trace_printing.proofs.put_said.Goals as goal

pub returns-in-Refused : goal.returns-in-Refused
unfolding said_text
returns-in-Refused c = rw c.in-Refused.is (puts_as c.put_first.ensures refl (omega arith))

pub returns-in-Done : goal.returns-in-Done
unfolding said_text
returns-in-Done c = rw c.in-Done.is (puts_as c.put_first-in-Done.ensures refl (omega arith))

pub returns-in-One : goal.returns-in-One
unfolding said_text
returns-in-One c = rw c.in-One.is (puts_as c.put_one.ensures refl (omega arith))

pub returns-in-Two : goal.returns-in-Two
unfolding said_text
returns-in-Two c =
    rw c.in-Two.is (puts_as (puts_then c.put_one-next.ensures (omega arith) c.put_number.ensures) (simp append_assoc) (omega arith))

pub returns-in-Points : goal.returns-in-Points
unfolding said_text
returns-in-Points c =
    let told = rw c.in-Points.is at c.requires.0 in
    rw c.in-Points.is (puts_as (puts_then c.put_one-next-in-Points.ensures (omega arith) c.put_points.ensures) (simp append_assoc) (omega (arith, told.0)))

pub returns-in-Boxes : goal.returns-in-Boxes
unfolding said_text
returns-in-Boxes c =
    let told = rw c.in-Boxes.is at c.requires.0 in
    rw c.in-Boxes.is (puts_as (puts_then c.put_one-next-in-Boxes.ensures (omega arith) c.put_boxes.ensures) (simp append_assoc) (omega (arith, told.0)))
