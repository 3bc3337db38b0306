-- Assumes nothing.
use Rattle.basics.specs.Words.{ap, ◌∙◌}
use Rattle.basics.proofs.laws.NumberLaws.{not_zero}
use Rattle.point_tables.specs.Meaning.Tables as Points
use Rattle.box_tables.specs.Meaning.Tables as Boxes
use Rattle.encoder.specs.Meaning.FillMap.{map_filled}
use Rattle.encoder.proofs.laws.AnswerLaws.{drawable, length-passed, fill_done, fill_refused}
use Rattle.encoder.proofs.fill_map.Goals as goal
use Rattle.encoder.proofs.fill_map.Goals.{Start}

abbrev points : Start → Points.Tables
points s = let a = s.args in Points.tables a.nums.now a.reals.now a.ints.now a.map.now a.pool.now a.spots.now a.cells.now

abbrev boxes : Start → Boxes.Tables
boxes s = let a = s.args in Boxes.tables a.boxnums.now a.boxreals.now a.boxmap.now a.boxpool.now

pub returns-in-Err : goal.returns-in-Err
returns-in-Err c =
    let s = (goal.at.returns-in-Err c).Start in
    ap (λ n. map_filled n c.args.bytes.now) c.number.ensures
    ∙ fill_refused (points s) (boxes s) c.args.circles.now c.args.bytes.now _ c.in-Err.ensures (not_zero c.in-Err.why)

pub draw-requires : goal.draw-requires
draw-requires c =
    let s = (goal.at.draw-requires c).Start in
    let a = c.args in
    (drawable (points s) (boxes s) a.circles.now a.bytes.now c.in_default.ensures, length-passed (points s) (boxes s) a.circles.now a.bytes.now c.in_default.ensures)

pub returns : goal.returns
returns c =
    let s = (goal.at.returns c).Start in
    ap (map_filled 0) c.draw.ensures ∙ fill_done (points s) (boxes s) c.args.circles.now c.args.bytes.now c.in_default.ensures
