-- Assumes nothing.
use Rattle.cells.proofs.laws.ReachLaws.{position_reached}
use Rattle.point_tables.specs.Meaning.Tables.{tables}
use Rattle.point_insert.proofs.Placed.{append-asks, enter_asks, put_is}
use Rattle.point_insert.proofs.inserting.put.Goals as goal

pub cell_at-cell-requires-clause-reached : goal.cell_at-cell-requires-clause-reached
cell_at-cell-requires-clause-reached c = position_reached c.args.at c.requires.within_domain

pub append_entry-requires : goal.append_entry-requires
append_entry-requires c =
    let a = c.args in
    append-asks (tables a.nums.now a.reals.now a.ints.now a.map.now a.pool.now a.spots.now a.cells.now) a.s a.at c.requires

pub enter_cell-rows-requires : goal.enter_cell-rows-requires
enter_cell-rows-requires c =
    let a = c.args in
    enter_asks (tables a.nums.now a.reals.now a.ints.now a.map.now a.pool.now a.spots.now a.cells.now) a.s a.at c.requires

pub returns : goal.returns
returns c =
    let a = c.args in
    put_is (tables a.nums.now a.reals.now a.ints.now a.map.now a.pool.now a.spots.now a.cells.now) a.s a.at c.requires a.obj a.tracker
    c.cell_at-cell.result c.key_of-key.result c.entry_row-row.result c.entry_spot-spot.result
    c.cell_at-cell.ensures c.key_of-key.ensures c.entry_row-row.ensures c.entry_spot-spot.ensures
    _ _ _ _ _ _ _ c.enter_cell-rows.result
    c.occupy.ensures c.append_entry.ensures c.enter_cell-rows.ensures c.count.ensures
