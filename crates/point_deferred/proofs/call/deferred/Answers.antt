-- Assumes nothing.
use Rattle.basics.specs.Words.{refl, sym}
use Rattle.std.proofs.lemmas.Result.{err_from_is_err_and}
use Rattle.basics.proofs.laws.NumberLaws.{not_zero}
use Rattle.point_deferred.specs.Inner.Ask.{call_for}
use Rattle.point_deferred.specs.Inner.Held.{poolless}
use Rattle.point_deferred.proofs.laws.HeldLaws.{held-accepted}
use Rattle.point_deferred.proofs.Shared.{refused, done}
use Rattle.point_deferred.proofs.call.deferred.Goals as goal

pub returns-in_err-check : goal.returns-in_err-check
returns-in_err-check c =
    let a = c.args in
    let p = err_from_is_err_and c.from_residual.result c.from_residual.ensures.1 in
    rw (p.1, p.2) (refused (poolless a.nums.now a.reals.now a.ints.now a.map.now a.cells.now) (call_for a.ask a.h a.tracker) _ c.in_err-check.ensures (not_zero _))

pub work-requires : goal.work-requires
work-requires c =
    let a = c.args in
    (c.requires, held-accepted (poolless a.nums.now a.reals.now a.ints.now a.map.now a.cells.now) (call_for a.ask a.h a.tracker) (sym c.in_ok-check.ensures))

pub returns : goal.returns
returns c =
    let a = c.args in
    done (poolless a.nums.now a.reals.now a.ints.now a.map.now a.cells.now) _ (call_for a.ask a.h a.tracker) 0 _ c.in_ok-check.ensures refl c.work.ensures
