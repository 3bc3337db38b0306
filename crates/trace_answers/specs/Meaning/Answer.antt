-- The answer to a request: of the points, of the boxes, of both for `cell`, and 10 to what is unreadable. Assumes nothing.
use Rattle.basics.specs.Words.{ℕ}
use Rattle.trace_printing.specs.declared.Said.TheVariants.{Refused}
use Rattle.trace_lines.specs.declared.PointChange as line-of-points
use Rattle.trace_lines.specs.declared.PointSearch as search-of-points
use Rattle.trace_lines.specs.declared.BoxChange as line-of-boxes
use Rattle.trace_lines.specs.declared.Line.{Line}
use Rattle.trace_lines.specs.declared.Line.TheVariants.{Cell, PointChange, PointSearch, BoxChange, BoxSearch, Unreadable}
use Rattle.trace_lines.specs.declared.Request.{Request}
use Rattle.point_search.specs.Meaning.Searches.{outputs}
use Rattle.trace_points.specs.Meaning.Changes as point-changes
use Rattle.trace_points.specs.Meaning.Searches as point-searches
use Rattle.trace_boxes.specs.Meaning.Changes as box-changes
use Rattle.trace_boxes.specs.Meaning.Searches as box-searches
use Rattle.trace_answers.specs.Meaning.State.{State, state, Answered, answered}
use Rattle.trace_answers.specs.Meaning.Cell.{build_both}

-- both grids
abbrev pub to_cell : State → ℕ → Answered
to_cell g size = let o = build_both g.points g.boxes size in answered o.said (state o.points o.boxes g.handles g.places g.corners g.objs)

-- the points, and the outputs of their queries
abbrev pub change_points : State → line-of-points.PointChange → Request → Answered
change_points g k r =
    let o = point-changes.change_of g.points k r.h r.p r.n r.k in
    answered o.result (state o.after g.boxes g.handles g.places g.corners g.objs)

abbrev pub search_points : State → search-of-points.PointSearch → Request → Answered
search_points g s r =
    let f = point-searches.point_search_of g.points s r.p r.q r.far (outputs g.handles g.places g.objs) in
    answered f.tells (state g.points g.boxes f.outputs.handles f.outputs.places g.corners f.outputs.objs)

-- the boxes, and the outputs of their query
abbrev pub change_boxes : State → line-of-boxes.BoxChange → Request → Answered
change_boxes g k r =
    let o = box-changes.change_of g.boxes k r.h r.p r.q r.n in
    answered o.result (state g.points o.after g.handles g.places g.corners g.objs)

abbrev pub search_boxes : State → Request → Answered
search_boxes g r =
    let f = box-searches.box_search_of g.boxes r.p r.q g.handles g.corners in
    answered f.tells (state g.points g.boxes f.handles g.places f.corners g.objs)

unfoldable pub by_line : State → Line → Request → Answered
by_line g Cell r = to_cell g r.n
by_line g (PointChange k) r = change_points g k r
by_line g (PointSearch s) r = search_points g s r
by_line g (BoxChange k) r = change_boxes g k r
by_line g BoxSearch r = search_boxes g r
by_line g Unreadable r = answered (Refused 10) g

abbrev pub answer_of : State → Request → Answered
answer_of g r = by_line g r.line r
