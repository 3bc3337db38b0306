-- `point_maintain_lists::walk_run`: what was looked at is kept or gone, and the rest of the list is where it was. The measure is how many entries are
-- left. Assumes nothing.
use Rattle.basics.specs.Words.{◌-◌}
use Rattle.point_maintain_lists.specs.Inner.Tags.{fate_in}
use Rattle.point_maintain_lists.proofs.laws.WalkingLaws.{Walking}
use Rattle.point_maintain_lists.proofs.walk_run.Given as goal

abbrev pub invariant-loop-i : goal.invariant-loop-i
invariant-loop-i l = Walking (fate_in l.nums l.reals) l.fn.pool l.fn.spots l.from l.to l.start l.at l.i l.end l.w l.pool l.spots

abbrev pub decreases-loop-i : goal.decreases-loop-i
decreases-loop-i l = l.end - l.i
