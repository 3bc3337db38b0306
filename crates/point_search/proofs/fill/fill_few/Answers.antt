-- Assumes nothing.
use Rattle.basics.specs.Words.{arith}
use Rattle.point_search.specs.Inner.Fill.{Findable}
use Rattle.point_search.proofs.laws.BegunLaws.{begun-none, begun-few, begun-room, begun-each}
use Rattle.point_search.proofs.fill.fill_few.Goals as goal

pub gather-part-requires : goal.gather-part-requires
gather-part-requires c =
    let a = c.args in
    (c.requires.0, c.requires.1, c.requires.2, omega arith, begun-none a.a a.b a.test a.pool.now a.spots.now _, omega arith)

pub report-requires : goal.report-requires
report-requires c =
    let a = c.args in
    let r = c.gather-part.result in
    let last = c.gather-part.new.places in
    let begun = c.gather-part.ensures.0 in
    let few = begun-few a.a a.b a.test a.pool.now a.spots.now r.number r.place last begun in (
      (
        begun-room a.a a.b a.test a.pool.now a.spots.now r.number r.place last begun,
        c.requires.3,
        begun-each a.a a.b a.test a.pool.now a.spots.now r.number r.place last begun (Findable a.nums.now a.pool.now a.spots.now) (λ j l. c.requires.4 j (omega (arith, l, c.gather-part.ensures.1))),
      ),
      omega (arith, few, c.gather-part.ensures.1, c.requires.0.most),
    )
