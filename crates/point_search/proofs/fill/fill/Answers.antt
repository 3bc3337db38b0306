-- Assumes nothing.
use Rattle.basics.specs.Words.{arith}
use Rattle.point_search.specs.Meaning.Searches.{outputs}
use Rattle.point_search.specs.Inner.Places.{places_of}
use Rattle.point_search.proofs.laws.StretchLaws.{places-most}
use Rattle.point_search.proofs.laws.FillLaws.{filled_put}
use Rattle.point_search.proofs.fill.fill.Goals as goal

pub overflow_cast-count : goal.overflow_cast-count
overflow_cast-count c =
    let a = c.args in
    omega (arith, c.put_range-count.ensures.0, places-most a.a a.b a.test a.pool.now a.spots.now a.used, c.requires.0.most)

pub returns : goal.returns
returns c =
    let a = c.args in
    let g = c.put_range-count.ensures in
    filled_put a.nums.now a.pool.now a.spots.now (places_of a.a a.b a.test a.pool.now a.spots.now a.used) (outputs a.handles.now a.places.now a.objs.now) c.put_range-count.result _ g.0 g.1
    (omega (arith, g.0, places-most a.a a.b a.test a.pool.now a.spots.now a.used))
