-- Assumes nothing.
use Rattle.basics.specs.Words.{◌∙◌, arith}
use Rattle.point_search.proofs.laws.BegunLaws.{begun-few, begun-run}
use Rattle.point_search.proofs.gather.gather.Goals as goal

pub loop-part-preserved : goal.loop-part-preserved
loop-part-preserved c =
    let a = c.args in
    let l = c.loop-part in
    let g = c.gather_part-part.ensures in
    let r = c.gather_part-part.result in (
      omega (arith, g.within, c.next_run-run.ensures.within),
      g.size ∙ l.invariant.1,
      begun-run a.a a.b a.test a.pool.now a.spots.now l.part.number l.part.place l.places l.invariant.2 a.used c.key_of-low.result c.key_of-high.result r.number r.place
          c.next_run-run.result c.gather_part-part.new.places c.requires.1 c.requires.2 c.key_of-low.ensures c.key_of-high.ensures c.next_run-run.ensures g c.if-part-places.true,
    )

pub returns-else-part-places : goal.returns-else-part-places
returns-else-part-places c =
    let a = c.args in
    let l = c.loop-part in
    let few = begun-few a.a a.b a.test a.pool.now a.spots.now l.part.number l.part.place l.places l.invariant.2 in
    (l.invariant.2, l.invariant.0, λ h. omega arith)
