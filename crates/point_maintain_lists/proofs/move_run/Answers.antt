-- Assumes nothing.
use Rattle.basics.specs.Words.{refl}
use Rattle.point_maintain_lists.proofs.laws.WalkingLaws.{walking_start, walking_stays}
use Rattle.point_maintain_lists.proofs.Turns.{move_done}
use Rattle.point_maintain_lists.proofs.move_run.Goals as goal

pub loop-i-init : goal.loop-i-init
loop-i-init c = walking_start c.requires

pub loop-i-preserved : goal.loop-i-preserved
loop-i-preserved c = walking_stays c.requires c.loop-i.invariant c.loop-i-test.true _ _ refl

pub returns : goal.returns
returns c = move_done c.requires c.loop-i.invariant c.loop-i-test.false
