-- Assumes nothing.
use Rattle.point_tables.specs.Meaning.Tables.{tables}
use Rattle.point_remove.proofs.Taken.{take-asks, cells-asks, pool-asks, taken_is}
use Rattle.point_remove.proofs.take_out.Goals as goal

pub take_entry-used-requires : goal.take_entry-used-requires
take_entry-used-requires c =
    let a = c.args in
    take-asks (tables a.nums.now a.reals.now a.ints.now a.map.now a.pool.now a.spots.now a.cells.now) a.s c.requires

pub drop_empty-rows-requires-clause-cells : goal.drop_empty-rows-requires-clause-cells
drop_empty-rows-requires-clause-cells c =
    let a = c.args in
    cells-asks (tables a.nums.now a.reals.now a.ints.now a.map.now a.pool.now a.spots.now a.cells.now) a.s c.requires

pub drop_empty-rows-requires-clause-pool : goal.drop_empty-rows-requires-clause-pool
drop_empty-rows-requires-clause-pool c =
    let a = c.args in
    pool-asks (tables a.nums.now a.reals.now a.ints.now a.map.now a.pool.now a.spots.now a.cells.now) a.s c.requires
    c.load-r.result c.key_of-key.result c.load-r.ensures c.key_of-key.ensures c.take_entry-used.result _ _ c.take_entry-used.ensures

pub returns : goal.returns
returns c =
    let a = c.args in
    taken_is (tables a.nums.now a.reals.now a.ints.now a.map.now a.pool.now a.spots.now a.cells.now) a.s c.requires
    c.load-r.result c.key_of-key.result c.load-r.ensures c.key_of-key.ensures c.take_entry-used.result _ _ c.take_entry-used.ensures
    _ _ _ c.drop_empty-rows.result c.drop_empty-rows.ensures c.empty.ensures.nums c.empty.ensures.map
