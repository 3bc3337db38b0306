-- Assumes nothing.
use Rattle.basics.specs.Words.{◌-◌, ap, ◌∙◌, refl, length, length-append, arith}
use Rattle.point_search.specs.Meaning.Searches.{Outputs, outputs}
use Rattle.point_search.specs.Inner.Places.{places_in, spot_passes, places_of}
use Rattle.point_search.specs.Inner.Fill.{handle_row_at, place_row_at, obj_row_at}
use Rattle.point_search.proofs.laws.StretchLaws.{places-most, places-run}
use Rattle.point_search.proofs.laws.RowLaws.{rows_behind}
use Rattle.point_search.proofs.fill.put_range.Goals as goal

pub loop-i-init : goal.loop-i-init
unfolding places_of places_in
loop-i-init c = (omega arith, (refl, refl))

pub put_run-n-requires : goal.put_run-n-requires
put_run-n-requires c =
    let a = c.args in
    let r = c.next_run-run.ensures in
    let few = places-most a.a a.b a.test a.pool.now a.spots.now c.loop-i.i in (
      omega (arith, r.onward, c.loop-i.invariant.1.0),
      r.ends,
      omega (arith, r.within, c.requires.0.0.most),
      (omega (arith, r.within), omega (arith, r.within), omega (arith, r.within)),
      c.requires.0.3,
      λ j h. c.requires.0.4 j (omega (arith, h, r.within)),
    )

pub loop-i-preserved : goal.loop-i-preserved
loop-i-preserved c =
    let a = c.args in
    let l = c.loop-i in
    let (number, done) = l.invariant.1 in
    let n = c.next_run-run in
    let r = n.result in
    let g = c.put_run-n.ensures in
    let js = places_of a.a a.b a.test a.pool.now a.spots.now l.i in
    let stretch = places_in (spot_passes a.test a.spots.now) r.from (r.to - r.from) in
    let more = places_of a.a a.b a.test a.pool.now a.spots.now r.to in
    let m = places-run a.a a.b c.requires.0.1 c.requires.0.2 a.test a.pool.now a.spots.now a.used l.i c.key_of-low.result c.key_of-high.result r c.key_of-low.ensures c.key_of-high.ensures n.ensures in (
      n.ensures.within,
      (
        omega (arith, g.0, number, ap length m ∙ length-append js stretch),
        λ z. outputs
            (rows_behind (handle_row_at a.nums.now a.pool.now a.spots.now) js stretch more l.handles a.handles.now c.put_run-n.new.handles l.n number (ap (λ (o : Outputs). o.handles) done) m g.1 z)
            (rows_behind (place_row_at a.nums.now a.pool.now a.spots.now) js stretch more l.places a.places.now c.put_run-n.new.places l.n number (ap (λ (o : Outputs). o.places) done) m g.2 z)
            (rows_behind (obj_row_at a.nums.now a.pool.now a.spots.now) js stretch more l.objs a.objs.now c.put_run-n.new.objs l.n number (ap (λ (o : Outputs). o.objs) done) m g.3 z),
      ),
    )
