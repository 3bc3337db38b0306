-- Assumes nothing.
use Rattle.basics.specs.Words.{◌∙◌}
use Rattle.point_deferred.proofs.laws.AskLaws.{held_alike}
use Rattle.point_batch.proofs.laws.BatchLaws.{step, finish}
use Rattle.point_batch.proofs.run.Goals as goal

pub loop-i-preserved : goal.loop-i-preserved
loop-i-preserved c =
    let a = c.args in
    rw (c.reply_row.ensures, c.into.ensures)
    (step a.kinds.now a.handles.now a.positions.now c.requires.long.0 c.requires.long.1 c.loop-i.invariant c.loop-i-test.true
    ((rw (c.of_kind-ask.ensures, c.position_of.ensures, c.handle_of.ensures) at c.deferred-r.ensures) ∙ held_alike _ _ _ _ _))

pub returns-clause-after : goal.returns-clause-after
returns-clause-after c =
    let a = c.args in
    (finish a.kinds.now a.handles.now a.positions.now c.loop-i.invariant c.loop-i-test.false c.requires.long.2).0

pub returns-clause-out : goal.returns-clause-out
returns-clause-out c =
    let a = c.args in
    (finish a.kinds.now a.handles.now a.positions.now c.loop-i.invariant c.loop-i-test.false c.requires.long.2).1
