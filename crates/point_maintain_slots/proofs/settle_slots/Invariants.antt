-- `point_maintain_slots::settle_slots`: the slots below i are settled, and their k rows stand from place w on. Assumes nothing.
use Rattle.point_maintain_slots.specs.Inner.Pass.{record_tables}
use Rattle.point_maintain_slots.proofs.Turns.{Done}
use Rattle.point_maintain_slots.proofs.settle_slots.Given as goal

abbrev pub invariant-loop-i : goal.invariant-loop-i
invariant-loop-i l = Done (record_tables l.fn.nums l.fn.reals l.fn.ints l.fn.map) l.w l.fn.pool l.i (record_tables l.nums l.reals l.ints l.map) l.pool l.k
