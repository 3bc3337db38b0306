-- `point_rings::rest` meets its contract. Assumes nothing.
use Rattle.basics.specs.Words.{◌≡◌, ap, ◌∙◌, arith, rules}
use Rattle.cells.specs.declared.Cell.{Cell}
use Rattle.cells.specs.Meaning.CellRule.{cell_at}
use Rattle.point_rings.specs.Inner.Look.{best_of}
use Rattle.point_rings.specs.Inner.Rings.{most_rings, within}
use Rattle.point_rings.proofs.laws.WalkLaws.{stopped, walked-rest}
use Rattle.point_rings.proofs.rest.Statement.{statement}
use Rattle.point_rings.proofs.rest.Tie as tie

-- the best so far, of the rings round the centre's cell
given : (s : tie.Start) → let a = s.args in a.best ≡ best_of a.centre a.radius a.pool.now a.spots.now a.used (within (cell_at a.size a.centre) a.pool.now most_rings)
given s = let a = s.args in s.requires.1.2 ∙ ap (λ (m : Cell). best_of a.centre a.radius a.pool.now a.spots.now a.used (within m a.pool.now most_rings)) s.requires.1.0

returns : tie.Need-returns-then-stops
returns c =
    let s = c in
    let a = s.args in
    let (w, ea, eb) = s.requires.0 in
    let (em, el, e) = s.requires.1 in
    stopped a.size a.centre a.radius a.pool.now a.spots.now a.used w a.mid a.a a.b em ea eb a.last el most_rings a.best (given c.before.before) c.stops.result c.stops.ensures (omega arith) (omega arith) c.if-stops.true

returns-2 : tie.Need-returns
returns-2 c =
    let h = c in
    let l = h in
    let s = l in
    let a = s.args in
    let (w, ea, eb) = s.requires.0 in
    let (em, el, e) = s.requires.1 in
    walked-rest a.size a.centre a.radius a.pool.now a.spots.now a.used w a.mid a.a a.b em ea eb _ _ most_rings a.best _ l.key_of.ensures h.key_of-2.ensures (given c.before.before.before.before.before) c.look_window.ensures

pub rest_spec : {M : Type 1} → statement M
rest_spec = tie.close (tie.spec (λ c κs. search rules) returns (λ c κs. search rules) (λ c κs. search rules) (λ c κs. search rules) returns-2)
