-- Assumes nothing.
use Rattle.basics.specs.Words.{refl}
use Rattle.basics.proofs.laws.NumberLaws.{not_zero}
use Rattle.box_tables.specs.Meaning.Tables.{tables}
use Rattle.box_query.proofs.laws.CallLaws.{broad-refused, looked-found, broad-short, broad-done}
use Rattle.box_query.proofs.query_broad.Goals as goal

pub returns-in-Err : goal.returns-in-Err
returns-in-Err c =
    let a = c.args in
    rw c.from.ensures (broad-refused (tables a.nums.now a.reals.now a.map.now a.pool.now) a.q _ _ c.in-Err.ensures a.handles.now (not_zero _))

pub returns-then-handles-n : goal.returns-then-handles-n
returns-then-handles-n c =
    let a = c.args in
    rw c.short.ensures (broad-short (tables a.nums.now a.reals.now a.map.now a.pool.now) a.q _ _ c.in-Ok.ensures refl a.handles.now c.in-Ok.n refl c.if-handles-n.true)

pub put_handles-requires : goal.put_handles-requires
put_handles-requires c =
    let a = c.args in
    (looked-found (tables a.nums.now a.reals.now a.map.now a.pool.now) a.q _ _ c.in-Ok.ensures refl, c.if-handles-n.false)

pub returns-else-handles-n : goal.returns-else-handles-n
returns-else-handles-n c =
    let a = c.args in
    rw c.from-in-Ok.ensures (broad-done (tables a.nums.now a.reals.now a.map.now a.pool.now) a.q _ _ c.in-Ok.ensures refl a.handles.now c.in-Ok.n refl _ c.if-handles-n.false c.put_handles.ensures)
