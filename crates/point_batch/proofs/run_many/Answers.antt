-- Assumes nothing.
use Rattle.basics.specs.Words.{◌∙◌}
use Rattle.point_deferred.specs.Inner.Held.{poolless}
use Rattle.point_deferred.proofs.laws.AskLaws.{unmarked_alike}
use Rattle.point_batch.proofs.laws.ManyLaws.{start_many, step_many, finish_many}
use Rattle.point_batch.proofs.run_many.Goals as goal

pub loop-i-init : goal.loop-i-init
loop-i-init c = start_many c.requires.grid

pub loop-i-preserved : goal.loop-i-preserved
loop-i-preserved c =
    let a = c.args in
    rw (c.reply_row.ensures, c.into.ensures)
    (step_many a.kinds.now a.handles.now a.positions.now (poolless a.nums.now a.reals.now a.ints.now a.map.now a.cells.now) a.out.now a.map.now c.requires.long.0 c.requires.long.1 c.loop-i.invariant c.loop-i-test.true
    ((rw (c.of_kind-ask.ensures, c.position_of.ensures, c.handle_of.ensures) at c.unmarked-r.ensures) ∙ unmarked_alike _ _ _ _ _))

pub returns-clause-after : goal.returns-clause-after
returns-clause-after c =
    let a = c.args in
    (finish_many (poolless a.nums.now a.reals.now a.ints.now a.map.now a.cells.now) c.requires.grid c.loop-i.invariant c.loop-i-test.false c.requires.long.2 c.mark_all.ensures).0

pub returns-clause-out : goal.returns-clause-out
returns-clause-out c =
    let a = c.args in
    (finish_many (poolless a.nums.now a.reals.now a.ints.now a.map.now a.cells.now) c.requires.grid c.loop-i.invariant c.loop-i-test.false c.requires.long.2 c.mark_all.ensures).1
