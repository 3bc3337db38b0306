-- Assumes nothing.
use Rattle.basics.specs.Words.{ap, ◌∙◌}
use Rattle.point_rings.specs.declared.Best.{Best}
use Rattle.point_rings.specs.Inner.Look.{better}
use Rattle.point_rings.proofs.laws.LookLaws.{looked_start, looked-next}
use Rattle.point_rings.proofs.look.look_run.Goals as goal

pub loop-j-init : goal.loop-j-init
loop-j-init c = let a = c.args in looked_start a.centre a.pool.now a.spots.now a.from a.best

pub loop-j-preserved : goal.loop-j-preserved
loop-j-preserved c =
    let a = c.args in
    let l = c.loop-j in
    c.better-best.ensures
    ∙ ap (λ (b : Best). better a.centre a.pool.now a.spots.now b l.j) l.invariant
    ∙ looked-next a.centre a.pool.now a.spots.now a.from l.j l.auto.j a.best
