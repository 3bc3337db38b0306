-- Assumes nothing.
use Rattle.basics.specs.Words.{◌≡◌, sym, refl, ap, ◌∙◌, arith, rules}
use Rattle.cells.specs.declared.Cell.{Cell}
use Rattle.cells.specs.Meaning.CellRule.{cell_at}
use Rattle.cells.specs.Meaning.Key.{upward}
use Rattle.cells.proofs.laws.ReachLaws.{position_reached}
use Rattle.point_rings.specs.Inner.Rings.{most_rings, stops_at, rings_of}
use Rattle.point_rings.proofs.laws.RingLaws.{x-room, y-room}
use Rattle.point_rings.proofs.laws.WalkLaws.{first-here, first_on, asked, stopped, walked-first, walked_ring}
use Rattle.point_rings.proofs.walk.Goals as goal

pub cell_at-mid-requires-clause-reached : goal.cell_at-mid-requires-clause-reached
cell_at-mid-requires-clause-reached c = position_reached c.args.centre c.requires.0.centred

pub loop-d-init : goal.loop-d-init
unfolding rings_of
loop-d-init c =
    let a = c.args in
    let ex : c.up_from_least-x.result ≡ upward c.cell_at-mid.result.x = search rules in
    let ey : c.up_from_least-y.result ≡ upward c.cell_at-mid.result.y = search rules in (
      walked-first a.size a.centre a.radius a.pool.now a.spots.now a.used c.requires.0 c.cell_at-mid.result a.a a.b c.cell_at-mid.ensures c.requires.1 c.requires.2
          _ _ c.none.result _ ex ey c.none.ensures c.look_cells-best.ensures,
      refl,
    )

pub returns-then-stops : goal.returns-then-stops
returns-then-stops c =
    let a = c.args in
    let l = c.loop-d in
    let m = c.cell_at-mid.result in
    let em = c.cell_at-mid.ensures in
    let last = c.last_ring-last.result in
    let rule = asked a.size a.centre a.radius a.pool.now a.spots.now a.used c.requires.0 m a.a a.b em c.requires.1 c.requires.2 last c.last_ring-last.ensures l.d l.best l.invariant.0 c.stops.result c.stops.ensures in
    record {
      best = stopped a.size a.centre a.radius a.pool.now a.spots.now a.used c.requires.0 m a.a a.b em c.requires.1 c.requires.2 last c.last_ring-last.ensures l.d l.best l.invariant.0 c.stops.result c.stops.ensures
          (omega arith) (omega arith) c.if-stops.true;
      rings = sym (l.invariant.1 ∙ first-here (stops_at a.size a.centre a.radius a.pool.now a.spots.now a.used) l.d most_rings c.loop-d-test.true (sym rule ∙ c.if-stops.true));
    }

pub look_ring-best-requires : goal.look_ring-best-requires
look_ring-best-requires c =
    let a = c.args in
    let ex : c.up_from_least-x.result ≡ upward c.cell_at-mid.result.x = search rules in
    let ey : c.up_from_least-y.result ≡ upward c.cell_at-mid.result.y = search rules in
    let x : c.up_from_least-x.result ≡ upward (cell_at a.size a.centre).x = ex ∙ ap (λ (m : Cell). upward m.x) c.cell_at-mid.ensures in
    let y : c.up_from_least-y.result ≡ upward (cell_at a.size a.centre).y = ey ∙ ap (λ (m : Cell). upward m.y) c.cell_at-mid.ensures in
    let columns = x-room a.size a.centre a.radius a.pool.now a.spots.now a.used c.requires.0 in
    let lines = y-room a.size a.centre a.radius a.pool.now a.spots.now a.used c.requires.0 in
    (c.requires.0.stocked, c.loop-d.auto.d, omega arith, omega arith, omega arith, omega arith)

pub loop-d-preserved : goal.loop-d-preserved
loop-d-preserved c =
    let a = c.args in
    let l = c.loop-d in
    let m = c.cell_at-mid.result in
    let em = c.cell_at-mid.ensures in
    let ex : c.up_from_least-x.result ≡ upward c.cell_at-mid.result.x = search rules in
    let ey : c.up_from_least-y.result ≡ upward c.cell_at-mid.result.y = search rules in
    let rule = asked a.size a.centre a.radius a.pool.now a.spots.now a.used c.requires.0 m a.a a.b em c.requires.1 c.requires.2 c.last_ring-last.result c.last_ring-last.ensures l.d l.best l.invariant.0 c.stops.result c.stops.ensures in (
      walked_ring a.size a.centre a.radius a.pool.now a.spots.now a.used c.requires.0 m a.a a.b em c.requires.1 c.requires.2 _ _ l.d l.best _
          ex ey (omega arith) c.loop-d-test.true l.invariant.0 c.look_ring-best.ensures,
      l.invariant.1 ∙ first_on (stops_at a.size a.centre a.radius a.pool.now a.spots.now a.used) l.d most_rings c.loop-d-test.true (sym rule ∙ c.if-stops.false),
    )
