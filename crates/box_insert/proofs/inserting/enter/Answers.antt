-- Assumes nothing.
use Rattle.basics.specs.Words.{sym, ◌∙◌, arith}
use Rattle.std.proofs.lemmas.Result.{err_from_is_err_and}
use Rattle.box_tables.specs.Meaning.Tables.{tables}
use Rattle.box_insert.proofs.Chosen.{no_grid, choose_asks, refused, chosen, done}
use Rattle.box_insert.proofs.inserting.enter.Goals as goal

pub returns-then-not-check : goal.returns-then-not-check
returns-then-not-check c =
    let a = c.args in
    no_grid (tables a.nums.now a.reals.now a.map.now a.pool.now) a.b a.obj (sym c.check.ensures ∙ c.if-not-check.true)

pub choose-requires : goal.choose-requires
choose-requires c =
    let a = c.args in
    choose_asks (tables a.nums.now a.reals.now a.map.now a.pool.now) a.b a.obj (sym c.check.ensures ∙ c.if-not-check.false)

pub returns-in_err-s : goal.returns-in_err-s
returns-in_err-s c =
    let a = c.args in
    let p = err_from_is_err_and c.from_residual.result c.from_residual.ensures.1 in
    rw (p.1, p.2) (refused (tables a.nums.now a.reals.now a.map.now a.pool.now) a.b a.obj (sym c.check.ensures ∙ c.if-not-check.false) _ c.in_err-s.ensures.0)

pub handle_at-handle-requires : goal.handle_at-handle-requires
handle_at-handle-requires c =
    let a = c.args in
    let f = chosen (tables a.nums.now a.reals.now a.map.now a.pool.now) a.b a.obj (sym c.check.ensures ∙ c.if-not-check.false) c.in_ok-s.ensures.0 c.in_ok-s.s c.in_ok-s.ensures.1.0 in
    (f.inside, omega (arith, f.holds.sized.most))

pub put-requires : goal.put-requires
put-requires c =
    let a = c.args in
    (chosen (tables a.nums.now a.reals.now a.map.now a.pool.now) a.b a.obj (sym c.check.ensures ∙ c.if-not-check.false) c.in_ok-s.ensures.0 c.in_ok-s.s c.in_ok-s.ensures.1.0, c.in_ok-s.ensures.1.1)

pub returns : goal.returns
returns c =
    let a = c.args in
    done (tables a.nums.now a.reals.now a.map.now a.pool.now) a.b a.obj (sym c.check.ensures ∙ c.if-not-check.false) c.in_ok-s.ensures.0 c.in_ok-s.s c.in_ok-s.ensures.1.0 c.handle_at-handle.result _ c.handle_at-handle.ensures c.put.ensures
