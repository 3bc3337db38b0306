-- Assumes nothing.
use Rattle.point_maintain_slots.proofs.Turns.{none_done, all_done, none_given, one_given, given-room}
use Rattle.point_maintain_slots.proofs.settle_slots.Goals as goal
use Rattle.point_maintain_slots.proofs.settle_slots.Goals.{in-Some, in_default}

pub loop-i-init : goal.loop-i-init
loop-i-init c = none_done

pub bounds-pool-w : goal.bounds-pool-w
bounds-pool-w c = given-room c.loop-i.invariant c.requires.0 c.requires.1 c.loop-i-test.true c.in-Some.row c.in-Some.ensures.row

pub loop-i-preserved : goal.loop-i-preserved
loop-i-preserved c =
    elim c.match-turn.branch [
      | in-Some w ↦
          rw (w.pool-is, w.k-is) (one_given c.loop-i.invariant c.requires.0 c.requires.1 c.loop-i-test.true w.in-Some.row w.in-Some.ensures.row c.turn.ensures.records)
      | in_default w ↦
          rw (w.pool-is, w.k-is) (none_given c.loop-i.invariant c.requires.0 c.requires.1 c.loop-i-test.true c.turn.ensures.records w.in_default.ensures.row)
    ]

pub returns : goal.returns
returns c = all_done c.loop-i.invariant c.loop-i-test.false
