-- The points are marked, and the boxes laid over them. Assumes nothing.
use Rattle.point_tables.specs.Meaning.Tables as Points
use Rattle.box_tables.specs.Meaning.Tables as Boxes
use Rattle.encoder_points.proofs.laws.PointLaws.{placed}
use Rattle.encoder_boxes.proofs.laws.NarrowLaws.{stocked}
use Rattle.encoder.proofs.laws.DrawLaws.{all_in_domain, map_drawn}
use Rattle.encoder.proofs.draw.Goals as goal

pub mark_points-requires : goal.mark_points-requires
mark_points-requires c =
    let a = c.args in
    let t = Points.tables a.nums.now a.reals.now a.ints.now a.map.now a.pool.now a.spots.now a.cells.now in
    let d = c.requires.0 in
    (placed t d.points d.points-size, d.few, all_in_domain a.circles.now d.within_domain, c.requires.1)

pub mark_boxes-requires : goal.mark_boxes-requires
mark_boxes-requires c =
    let a = c.args in
    (stocked (Boxes.tables a.boxnums.now a.boxreals.now a.boxmap.now a.boxpool.now) c.requires.0.boxes, c.mark_points.ensures.size)

pub returns : goal.returns
returns c =
    let a = c.args in
    map_drawn (Points.tables a.nums.now a.reals.now a.ints.now a.map.now a.pool.now a.spots.now a.cells.now) (Boxes.tables a.boxnums.now a.boxreals.now a.boxmap.now a.boxpool.now) a.circles.now c.requires.0 c.mark_points.new.bytes c.mark_boxes.new.bytes c.mark_points.ensures c.mark_boxes.ensures
