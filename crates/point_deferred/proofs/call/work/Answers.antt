-- Assumes nothing.
use Rattle.basics.specs.Words.{refl}
use Rattle.point_deferred.specs.Inner.Ask.{kind_of, place_of}
use Rattle.point_deferred.specs.Inner.Held.{poolless}
use Rattle.point_deferred.proofs.Shared.{made, rising}
use Rattle.point_deferred.proofs.call.work.Goals as goal

pub mark_cell-requires : goal.mark_cell-requires
mark_cell-requires c =
    let a = c.args in
    rising (poolless a.nums.now a.reals.now a.ints.now a.map.now a.cells.now) _ c.requires.0 refl

pub returns : goal.returns
returns c =
    let a = c.args in
    made a.nums.now a.reals.now a.ints.now a.map.now a.cells.now a.s (kind_of a.ask) (place_of a.ask) _ _ _ _ _ _ _ _ c.cell_in.ensures c.key_of-k.ensures refl c.mark_cell.ensures c.pend.ensures
