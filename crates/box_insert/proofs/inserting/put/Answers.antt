-- Assumes nothing.
use Rattle.basics.specs.Words.{arith}
use Rattle.box_tables.specs.Meaning.Tables.{tables}
use Rattle.box_insert.proofs.Placed.{enter_asks, few-more, put_is}
use Rattle.box_insert.proofs.inserting.put.Goals as goal

pub enter-requires : goal.enter-requires
enter-requires c =
    let a = c.args in
    enter_asks (tables a.nums.now a.reals.now a.map.now a.pool.now) a.s a.b c.requires.0 a.p c.requires.1

pub overflow_add-used : goal.overflow_add-used
overflow_add-used c =
    let a = c.args in
    omega (arith, few-more (tables a.nums.now a.reals.now a.map.now a.pool.now) a.s a.b c.requires.0 a.p c.requires.1)

pub returns : goal.returns
returns c =
    let a = c.args in
    put_is (tables a.nums.now a.reals.now a.map.now a.pool.now) a.s a.b c.requires.0 a.p c.requires.1 a.obj
    c.item_of-item.result _ _ _ _ c.item_of-item.ensures c.occupy.ensures c.store_box.ensures c.enter.ensures c.count.ensures
