-- `point_maintain_lists::move_run`: it is the walk of a list of which all stay. Assumes nothing.
use Rattle.point_maintain.specs.Meaning.Walk.{stays}
use Rattle.point_maintain_lists.proofs.laws.WalkingLaws.{Walking}
use Rattle.point_maintain_lists.proofs.move_run.Given as goal

abbrev pub invariant-loop-i : goal.invariant-loop-i
invariant-loop-i l = Walking stays l.fn.pool l.fn.spots l.from l.to l.start l.i l.i l.to l.w l.pool l.spots
