-- Assumes nothing.
use Rattle.basics.specs.Words.{sym, ◌∙◌}
use Rattle.std.proofs.lemmas.Result.{err_from_is_err_and}
use Rattle.box_tables.specs.Meaning.Tables.{tables}
use Rattle.box_remove.proofs.Taken.{no_grid, refused, object, done}
use Rattle.box_remove.proofs.take.Goals as goal

pub returns-then-not-check : goal.returns-then-not-check
returns-then-not-check c =
    let a = c.args in
    no_grid (tables a.nums.now a.reals.now a.map.now a.pool.now) a.h (sym c.check.ensures ∙ c.if-not-check.true)

pub returns-in_err-check_handle : goal.returns-in_err-check_handle
returns-in_err-check_handle c =
    let a = c.args in
    let p = err_from_is_err_and c.from_residual.result c.from_residual.ensures.1 in
    rw (p.1, p.2) (refused (tables a.nums.now a.reals.now a.map.now a.pool.now) a.h (sym c.check.ensures ∙ c.if-not-check.false) _ c.in_err-check_handle.ensures)

pub take_out-requires : goal.take_out-requires
take_out-requires c =
    let a = c.args in
    object (tables a.nums.now a.reals.now a.map.now a.pool.now) a.h (sym c.check.ensures ∙ c.if-not-check.false) c.in_ok-check_handle.ensures

pub returns : goal.returns
returns c =
    let a = c.args in
    done (tables a.nums.now a.reals.now a.map.now a.pool.now) a.h (sym c.check.ensures ∙ c.if-not-check.false) c.in_ok-check_handle.ensures _ _ c.take_out.ensures
