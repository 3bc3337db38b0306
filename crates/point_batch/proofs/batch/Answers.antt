-- Assumes nothing.
use Rattle.basics.specs.Words.{refl}
use Rattle.basics.proofs.laws.NumberLaws.{not_zero}
use Rattle.point_deferred.specs.Inner.Held.{poolless}
use Rattle.point_batch.proofs.Ends.{Answered, answered, refused, lengths, found, ran}
use Rattle.point_batch.proofs.batch.Goals as goal

pub returns-in-Err : goal.returns-in-Err
returns-in-Err c =
    let a = c.args in
    let e : Answered (poolless a.nums.now a.reals.now a.ints.now a.map.now a.cells.now) a.pool.now a.spots.now a.kinds.now a.handles.now a.positions.now a.out.now _ = answered c.check-held.ensures c.in-Err.ensures in
    refused e (not_zero _) c.refused_batch.ensures

pub run_all-requires : goal.run_all-requires
run_all-requires c =
    let a = c.args in
    let e : Answered (poolless a.nums.now a.reals.now a.ints.now a.map.now a.cells.now) a.pool.now a.spots.now a.kinds.now a.handles.now a.positions.now a.out.now 0 = answered c.check-held.ensures c.in-Ok.ensures in
    record { grid = found e refl; long = lengths e refl }

pub returns-in-Ok : goal.returns-in-Ok
returns-in-Ok c =
    let a = c.args in
    let e : Answered (poolless a.nums.now a.reals.now a.ints.now a.map.now a.cells.now) a.pool.now a.spots.now a.kinds.now a.handles.now a.positions.now a.out.now 0 = answered c.check-held.ensures c.in-Ok.ensures in
    ran e {u = poolless c.run_all.new.nums c.run_all.new.reals c.run_all.new.ints a.map.now c.run_all.new.cells} refl refl (c.run_all.ensures.after, c.run_all.ensures.out)
