-- Assumes nothing.
use Rattle.basics.specs.Words.{sym, ◌∙◌}
use Rattle.point_tables.specs.Meaning.Tables.{tables}
use Rattle.point_tables.specs.Meaning.Decide.{holds_says}
use Rattle.point_deferred.specs.Inner.Held.{poolless}
use Rattle.point_deferred.proofs.laws.ReadyLaws.{holds_ready, ready_pool}
use Rattle.point_deferred.proofs.Shared.{set_no_grid, set-held}
use Rattle.point_deferred.proofs.set_position.Goals as goal

pub deferred-requires : goal.deferred-requires
deferred-requires c =
    let a = c.args in
    let t = tables a.nums.now a.reals.now a.ints.now a.map.now a.pool.now a.spots.now a.cells.now in
    ready_pool (poolless a.nums.now a.reals.now a.ints.now a.map.now a.cells.now) a.pool.now a.spots.now (holds_ready t ((holds_says t).yes (sym c.check.ensures ∙ c.if-not-check.false)))

pub returns-then-not-check : goal.returns-then-not-check
returns-then-not-check c =
    let a = c.args in
    let t = tables a.nums.now a.reals.now a.ints.now a.map.now a.pool.now a.spots.now a.cells.now in
    rw c.number.ensures (set_no_grid t a.h a.at a.tracker (sym c.check.ensures ∙ c.if-not-check.true))

pub returns : goal.returns
returns c =
    let a = c.args in
    rw c.from.ensures (set-held (poolless a.nums.now a.reals.now a.ints.now a.map.now a.cells.now) _ a.pool.now a.spots.now a.h a.at a.tracker _ (sym c.check.ensures ∙ c.if-not-check.false) c.deferred.ensures)
