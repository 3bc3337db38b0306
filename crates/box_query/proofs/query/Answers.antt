-- Assumes nothing.
use Rattle.basics.specs.Words.{refl, ap, ◌∙◌, min, arith}
use Rattle.basics.proofs.laws.NumberLaws.{not_zero}
use Rattle.box_tables.specs.Meaning.Tables.{tables}
use Rattle.box_query.proofs.laws.CallLaws.{query-refused, looked-rows, looked-boxes, kept-found, query-short, query-done}
use Rattle.box_query.proofs.query.Goals as goal

pub returns-in-Err : goal.returns-in-Err
returns-in-Err c =
    let a = c.args in
    rw c.from.ensures (query-refused (tables a.nums.now a.reals.now a.map.now a.pool.now) a.q _ _ c.in-Err.ensures a.handles.now a.boxes.now a.objs.now (not_zero _))

pub keep-n-requires : goal.keep-n-requires
keep-n-requires c =
    let a = c.args in
    looked-boxes (tables a.nums.now a.reals.now a.map.now a.pool.now) a.q _ _ c.in-Ok.ensures refl c.in-Ok.met refl

pub overflow_cast-number : goal.overflow_cast-number
overflow_cast-number c = omega (arith, c.keep-n.ensures.0, c.in-Ok.ensures.most)

pub returns-then-room-n : goal.returns-then-room-n
returns-then-room-n c =
    let a = c.args in
    let k = c.keep-n in
    rw c.short.ensures (query-short (tables a.nums.now a.reals.now a.map.now a.pool.now) a.q _ _ c.in-Ok.ensures refl c.in-Ok.met k.result _ refl k.ensures.0 k.ensures.2 k.ensures.1 a.handles.now a.boxes.now a.objs.now _ (c.min-room.ensures ∙ ap (min _) c.min.ensures) c.if-room-n.true)

pub put_findings-requires : goal.put_findings-requires
put_findings-requires c =
    let a = c.args in
    let k = c.keep-n in
    let t = tables a.nums.now a.reals.now a.map.now a.pool.now in (
      kept-found t a.q _ _ c.in-Ok.ensures refl c.in-Ok.met k.result _ refl k.ensures.0 k.ensures.2 k.ensures.1,
      looked-rows t a.q _ _ c.in-Ok.ensures refl,
      omega (arith, c.min-room.ensures, c.min.ensures, c.if-room-n.false),
      omega (arith, c.min-room.ensures, c.min.ensures, c.if-room-n.false),
      omega (arith, c.min-room.ensures, c.min.ensures, c.if-room-n.false),
    )

pub returns-else-room-n : goal.returns-else-room-n
returns-else-room-n c =
    let a = c.args in
    let k = c.keep-n in
    let f = c.put_findings.ensures in
    rw c.from-in-Ok.ensures
    (query-done (tables a.nums.now a.reals.now a.map.now a.pool.now) a.q _ _ c.in-Ok.ensures refl c.in-Ok.met k.result _ refl k.ensures.0 k.ensures.2 k.ensures.1 a.handles.now a.boxes.now a.objs.now _ (c.min-room.ensures ∙ ap (min _) c.min.ensures) _ _ _ c.if-room-n.false f.0 f.1 f.2)
