-- Assumes nothing.
use Rattle.point_deferred.specs.Inner.Held.{poolless}
use Rattle.point_deferred.proofs.laws.ReadyLaws.{holds_ready, ready_pool}
use Rattle.point_batch.proofs.run_all.Goals as goal

pub run-requires-clause-ready : goal.run-requires-clause-ready
run-requires-clause-ready c =
    let a = c.args in
    ready_pool (poolless a.nums.now a.reals.now a.ints.now a.map.now a.cells.now) a.pool.now a.spots.now (holds_ready _ c.requires.grid)
