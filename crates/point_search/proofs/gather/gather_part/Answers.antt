-- Assumes nothing.
use Rattle.basics.specs.Words.{◌≤◌, ◌-◌, ◌∙◌, refl, arith}
use Rattle.point_search.specs.Inner.Places.{spot_passes}
use Rattle.point_search.proofs.laws.PlacesLaws.{places-length}
use Rattle.point_search.proofs.laws.BegunLaws.{stretch_none, stretch_kept, stretch_count, stretch_first}
use Rattle.point_search.proofs.gather.gather_part.Goals as goal

pub loop-j-init : goal.loop-j-init
loop-j-init c =
    let a = c.args in
    let t = spot_passes a.test a.spots.now in
    (omega arith, omega arith, refl, omega (arith, places-length t a.from (a.from - a.from)), stretch_none t a.from a.n a.places.now c.requires.3)

pub loop-j-preserved : goal.loop-j-preserved
loop-j-preserved c =
    let a = c.args in
    let l = c.loop-j in
    let v = l.invariant in
    let t = spot_passes a.test a.spots.now in
    let end = c.min-end.result in
    let g = c.gather_run-k.ensures in
    let r = c.gather_run-k.result in
    let last = c.gather_run-k.new.places in
    let on : l.j ≤ end = omega arith in (
      omega arith,
      omega arith,
      stretch_kept t a.from a.n a.places.now c.requires.3 l.j l.k l.places v.3 v.4 end r last v.0 on g.0 g.1 (omega arith) ∙ v.2,
      stretch_count t a.from a.n a.places.now c.requires.3 l.j l.k l.places v.3 v.4 end r last v.0 on g.0 g.1,
      stretch_first t a.from a.n a.places.now c.requires.3 l.j l.k l.places v.3 v.4 end r last v.0 on g.0 g.1,
    )

pub returns-else-k-places : goal.returns-else-k-places
returns-else-k-places c =
    let a = c.args in
    let l = c.loop-j in
    let v = l.invariant in
    let few = places-length (spot_passes a.test a.spots.now) a.from (l.j - a.from) in
    record { onward = v.0; within = v.1; moved = λ p q. omega arith; size = v.2; counted = v.3; collected = v.4 }
