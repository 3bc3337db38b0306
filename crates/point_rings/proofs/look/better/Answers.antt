-- Assumes nothing.
use Rattle.point_rings.proofs.laws.LookLaws.{better-taken, better-left}
use Rattle.point_rings.proofs.look.better.Goals as goal

pub returns-then-closer : goal.returns-then-closer
returns-then-closer c =
    let a = c.args in
    better-taken a.centre a.pool.now a.spots.now a.b a.j _ _ _ c.entry_at-e.ensures c.distance_squared-distance.ensures c.closer.ensures c.if-closer.true

pub returns : goal.returns
returns c =
    let a = c.args in
    better-left a.centre a.pool.now a.spots.now a.b a.j _ _ _ c.entry_at-e.ensures c.distance_squared-distance.ensures c.closer.ensures c.if-closer.false
