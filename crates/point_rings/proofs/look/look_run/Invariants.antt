-- `point_rings::look::look_run`: the best so far is that of the places of the stretch below j. Assumes nothing.
use Rattle.basics.specs.Words.{◌-◌, ◌≡◌}
use Rattle.point_search.specs.Inner.Places.{places_in}
use Rattle.point_rings.specs.Inner.Look.{looked, every}
use Rattle.point_rings.proofs.look.look_run.Given as goal

abbrev pub invariant-loop-j : goal.invariant-loop-j
invariant-loop-j l = l.best ≡ looked l.centre l.pool l.spots (places_in every l.from (l.j - l.from)) l.fn.best
