-- Assumes nothing.
use Rattle.basics.specs.Words.{◌-◌, ap, ◌∙◌, arith}
use Rattle.point_search.specs.Inner.Places.{places_in}
use Rattle.point_rings.specs.declared.Best.{Best}
use Rattle.point_rings.specs.Inner.Look.{looked, every}
use Rattle.point_rings.proofs.laws.LookLaws.{window_start, looked-run}
use Rattle.point_rings.proofs.look.look_window.Goals as goal

pub loop-i-init : goal.loop-i-init
loop-i-init c = let a = c.args in (omega arith, window_start a.centre a.pool.now a.spots.now a.low a.high a.best)

pub loop-i-preserved : goal.loop-i-preserved
loop-i-preserved c =
    let a = c.args in
    let l = c.loop-i in
    let r = c.next_run-run.result in (
      c.next_run-run.ensures.within,
      c.look_run-best.ensures
          ∙ ap (λ (b : Best). looked a.centre a.pool.now a.spots.now (places_in every r.from (r.to - r.from)) b) l.invariant.1
          ∙ looked-run a.centre a.pool.now a.spots.now a.low a.high a.used l.i r c.next_run-run.ensures a.best,
    )
