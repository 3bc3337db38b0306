-- `point_batch::run_many`: the calls so far have left these records, and marks that the walk at the end comes to. Assumes nothing.
use Rattle.point_deferred.specs.Inner.Held.{poolless}
use Rattle.point_batch.proofs.laws.ManyLaws.{RunningMany}
use Rattle.point_batch.proofs.run_many.Given as goal

abbrev pub invariant-loop-i : goal.invariant-loop-i
invariant-loop-i l =
    RunningMany l.kinds l.handles l.positions (poolless l.fn.nums l.fn.reals l.fn.ints l.map l.cells) l.fn.out l.map l.nums l.reals l.ints l.out l.i
