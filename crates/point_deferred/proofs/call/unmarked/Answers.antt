-- Assumes nothing.
use Rattle.basics.specs.Words.{refl, sym, arith}
use Rattle.std.proofs.lemmas.Result.{err_from_is_err_and}
use Rattle.basics.proofs.laws.NumberLaws.{not_zero}
use Rattle.point_deferred.specs.Inner.Ask.{call_for}
use Rattle.point_deferred.specs.Inner.Held.{columns_alone}
use Rattle.point_deferred.proofs.laws.HeldLaws.{held-accepted}
use Rattle.point_deferred.proofs.Shared.{refused-unmarked, done-unmarked}
use Rattle.point_deferred.proofs.call.unmarked.Goals as goal

pub returns-in_err-check : goal.returns-in_err-check
returns-in_err-check c =
    let a = c.args in
    let p = err_from_is_err_and c.from_residual.result c.from_residual.ensures.1 in
    rw (p.1, p.2) (refused-unmarked (columns_alone a.nums.now a.reals.now a.ints.now a.size) (call_for a.ask a.h a.tracker) _ c.in_err-check.ensures (not_zero _))

pub pend-requires : goal.pend-requires
pend-requires c =
    let a = c.args in
    let w = held-accepted (columns_alone a.nums.now a.reals.now a.ints.now a.size) (call_for a.ask a.h a.tracker) (sym c.in_ok-check.ensures) in
    (w.inside, omega (arith, w.inside, c.requires.0), omega (arith, w.inside, c.requires.1), c.requires.2, w.within_domain)

pub returns : goal.returns
returns c =
    let a = c.args in
    done-unmarked a.nums.now a.reals.now a.ints.now a.size (call_for a.ask a.h a.tracker) 0 _ a.h.slot _ _ _ c.in_ok-check.ensures refl refl c.pend.ensures
