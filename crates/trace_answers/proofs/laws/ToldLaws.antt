-- Whatever is answered can be told: findings are in the outputs, and no more than the trace's grids can give. Assumes nothing.
use Rattle.basics.specs.Words.{◌≤◌, length}
use Rattle.point_insert.specs.Meaning.New as point-new
use Rattle.box_insert.specs.Meaning.New as box-new
use Rattle.trace_printing.specs.declared.Said.TheVariants.{Done}
use Rattle.trace_printing.specs.Inner.Said.{Told}
use Rattle.trace_telling.specs.Meaning.Tells.{done_or}
use Rattle.trace_telling.proofs.laws.Tells.{told_tells}
use Rattle.point_search.specs.Meaning.Searches.{outputs}
use Rattle.trace_points.proofs.laws.ToldLaws as point-told
use Rattle.trace_boxes.proofs.laws.ToldLaws as box-told
use Rattle.trace_lines.specs.declared.Line.{Line}
use Rattle.trace_lines.specs.declared.Line.TheVariants.{Cell, PointChange, PointSearch, BoxChange, BoxSearch, Unreadable}
use Rattle.trace_lines.specs.declared.Request.{Request}
use Rattle.trace_answers.specs.Meaning.State.{State, Answered}
use Rattle.trace_answers.specs.Meaning.Cell.{build_both}
use Rattle.trace_answers.specs.Meaning.Answer.{by_line, answer_of}

abbrev pub IsTold : Answered → Type 0
IsTold a = Told a.tells (length a.after.handles) (length a.after.places) (length a.after.corners) (length a.after.objs)

module _ (g : State) (few : length g.handles ≤ 256) (few' : length g.corners ≤ 64) where
  by_line_lem : (l : Line) (r : Request) → IsTold (by_line g l r)
  unfolding by_line build_both
  by_line_lem Cell r =
      let h = length g.handles in
      let p = length g.places in
      let c = length g.corners in
      let d = length g.objs in
      let b = (box-new.new_of g.boxes r.n).result in
      told_tells h p c d (point-new.new_of g.points r.n).result (done_or b) (told_tells h p c d b Done tt)
  by_line_lem (PointChange k) r = point-told.told_change (length g.handles) (length g.places) (length g.corners) (length g.objs) g.points k r.h r.p r.n r.k
  by_line_lem (PointSearch s) r = point-told.told (length g.corners) (outputs g.handles g.places g.objs) few g.points s r.p r.q r.far
  by_line_lem (BoxChange k) r = box-told.told_change (length g.handles) (length g.places) (length g.corners) (length g.objs) g.boxes k r.h r.p r.q r.n
  by_line_lem BoxSearch r = box-told.told (length g.places) (length g.objs) g.handles g.corners few' g.boxes r.p r.q
  by_line_lem Unreadable r = tt

  pub told : (r : Request) → IsTold (answer_of g r)
  told r = by_line_lem r.line r
