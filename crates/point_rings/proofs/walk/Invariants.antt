-- `point_rings::walk`: before ring d the best is that of the rings below d, and the rule has not stopped yet. Assumes nothing.
use Rattle.basics.specs.Words.{◌-◌, ◌≡◌}
use Rattle.cells.specs.Meaning.CellRule.{cell_at}
use Rattle.point_rings.specs.Inner.Look.{best_of}
use Rattle.point_rings.specs.Inner.Rings.{most_rings, within, stops_at, first_from, rings_of}
use Rattle.point_rings.proofs.walk.Given as goal

abbrev pub invariant-loop-d : goal.invariant-loop-d
invariant-loop-d l =
    (l.best ≡ best_of l.centre l.radius l.pool l.spots l.used (within (cell_at l.size l.centre) l.pool l.d))
    × (rings_of l.size l.centre l.radius l.pool l.spots l.used ≡ first_from (stops_at l.size l.centre l.radius l.pool l.spots l.used) l.d (most_rings - l.d))
