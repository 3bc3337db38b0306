-- A list that is left where it is is laid. Assumes nothing.
use Rattle.point_maintain_lists.proofs.Turns.{stay_done}
use Rattle.point_maintain_lists.proofs.sweep_run.Goals as goal

pub returns-then-start-from : goal.returns-then-start-from
returns-then-start-from c =
    let a = c.args in
    rw c.if-dirty.false (stay_done a.pool.now a.spots.now a.from a.to a.start c.requires.0 c.if-start-from.true)
