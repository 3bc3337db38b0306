-- Tables that hold a grid have the head of their map. Assumes nothing.
use Rattle.basics.specs.Words.{◌≡◌, sym, ◌∙◌, true, arith}
use Rattle.basics.proofs.laws.Says.{apart}
use Rattle.point_tables.specs.Meaning.Tables as Points
use Rattle.point_tables.specs.Meaning.Decide as PointsDecide
use Rattle.box_tables.specs.Meaning.Tables as Boxes
use Rattle.box_tables.specs.Meaning.Decide as BoxesDecide
use Rattle.encoder.proofs.grids_right.Goals as goal
use Rattle.encoder.proofs.grids_right.Goals.{then-map-eq-SIDE, else-map-eq-SIDE}

pub bounds-map-0 : goal.bounds-map-0
bounds-map-0 c =
    let a = c.args in
    omega (arith, ((PointsDecide.holds_says (Points.tables a.nums.now a.reals.now a.ints.now a.map.now a.pool.now a.spots.now a.cells.now)).yes (sym c.check.ensures ∙ c.if-check.true)).sized.of_map)

pub bounds-boxmap-0 : goal.bounds-boxmap-0
bounds-boxmap-0 c =
    let a = c.args in
    let b = Boxes.tables a.boxnums.now a.boxreals.now a.boxmap.now a.boxpool.now in
    let held : BoxesDecide.holds b ≡ true =
    elim c.if-map-eq-SIDE.branch [ then-map-eq-SIDE w ↦ sym w.check-then-map-eq-SIDE.ensures ∙ sym w.value-is ∙ c.if-check-2.true | else-map-eq-SIDE w ↦ absurd (apart (sym w.if-map-eq-SIDE.false ∙ sym w.value-is ∙ c.if-check-2.true)) ] in
    omega (arith, ((BoxesDecide.holds_says b).yes held).sized.of_map)
