-- `point_search::fill::put_range`: the rows of the entries below i that pass stand in the first places of the outputs. The measure is what is left of the
-- entries in use. Assumes nothing.
use Rattle.basics.specs.Words.{◌≤◌, ◌-◌}
use Rattle.point_search.specs.Meaning.Searches.{outputs}
use Rattle.point_search.specs.Inner.Asked.{SearchReported}
use Rattle.point_search.proofs.fill.put_range.Given as goal

abbrev pub invariant-loop-i : goal.invariant-loop-i
invariant-loop-i l =
    (l.i ≤ l.used)
    × SearchReported l.fn.a l.fn.b l.test l.nums l.pool l.spots l.i (outputs l.fn.handles l.fn.places l.fn.objs) l.n (outputs l.handles l.places l.objs)

abbrev pub decreases-loop-i : goal.decreases-loop-i
decreases-loop-i l = l.used - l.i
