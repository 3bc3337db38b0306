-- `point_rings::look_ring` meets its contract. Assumes nothing.
use Rattle.basics.specs.Words.{arith}
use Rattle.point_rings.specs.Inner.Rings.{ring_places}
use Rattle.point_rings.proofs.laws.LookLaws.{looked_four}
use Rattle.point_rings.proofs.look_ring.Statement.{statement}
use Rattle.point_rings.proofs.look_ring.Tie as tie

returns : tie.Need-returns
unfolding ring_places
returns c =
    let p = c.before in
    let q = p.before in
    let s = q.before in
    let a = s.before.args in
    looked_four a.centre a.pool.now a.spots.now _ _ _ _ a.best _ _ _ _ s.look_cells-a.ensures q.look_cells-b.ensures p.look_cells-c.ensures c.look_cells.ensures

pub look_ring_spec : {M : Type 1} → statement M
look_ring_spec =
    tie.close
    (tie.spec
    (λ c. omega arith)
    (λ c. omega arith)
    (λ c. omega arith)
    (λ c. omega arith)
    (λ c κs. (c.requires.0, omega arith, omega arith, omega arith, omega arith))
    (λ c. omega arith)
    (λ c. omega arith)
    (λ c κs. let s = c.before in (s.requires.0, omega arith, omega arith, omega arith, omega arith))
    (λ c. omega arith)
    (λ c. omega arith)
    (λ c κs. let s = c.before.before in (s.requires.0, omega arith, omega arith, omega arith, omega arith))
    (λ c κs. let s = c.before.before.before in (s.requires.0, omega arith, omega arith, omega arith, omega arith))
    returns)
