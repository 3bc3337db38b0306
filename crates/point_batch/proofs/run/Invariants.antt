-- `point_batch::run`: what is left to do makes of the tables and of the output what all the calls make of those at the start. Assumes nothing.
use Rattle.point_deferred.specs.Inner.Held.{poolless}
use Rattle.point_batch.proofs.laws.BatchLaws.{Running}
use Rattle.point_batch.proofs.run.Given as goal

abbrev pub invariant-loop-i : goal.invariant-loop-i
invariant-loop-i l =
    Running l.kinds l.handles l.positions (poolless l.fn.nums l.fn.reals l.fn.ints l.map l.fn.cells) l.fn.out (poolless l.nums l.reals l.ints l.map l.cells) l.out l.i
