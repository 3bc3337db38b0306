-- Assumes nothing.
use Rattle.basics.specs.Words.{refl, ap, ◌∙◌, Bool, take, get_or, arith}
use Rattle.cells.specs.Inner.Key.{line_of}
use Rattle.point_records.specs.Inner.Listed.{spot_at}
use Rattle.encoder_blocks.specs.Inner.Places.{block_of}
use Rattle.encoder_points.specs.Inner.Marks.{in_some, raised_by}
use Rattle.encoder_points.proofs.laws.MarkLaws.{marked-none, marked-past, marked_in}
use Rattle.encoder_points.proofs.laws.NearLaws.{chosen_enough}
use Rattle.encoder_points.proofs.mark_points.Goals as goal
use Rattle.encoder_points.proofs.mark_points.Goals.{in-Some, in_default}

pub loop-n-init : goal.loop-n-init
loop-n-init c =
    let a = c.args in
    (marked-none a.pool.now a.spots.now a.circles.now _ (c.fill.ensures.len ∙ c.requires.3) (λ k h. c.fill.ensures.clones k 0 (omega (arith, c.requires.3)) refl), c.choose-few.ensures)

pub loop-n-preserved : goal.loop-n-preserved
loop-n-preserved c =
    let a = c.args in
    let l = c.loop-n in
    let n = l.n in
    let key = c.key_at-key.ensures in
    let p = spot_at a.spots.now n in
    elim c.match-block_of.branch [
      | in-Some w ↦
          rw (w.bytes-is, w.near-is, w.line-is, w.few-is) (
            marked_in a.pool.now a.spots.now a.circles.now n l.bytes l.invariant.0 w.in-Some.k (w.in-Some.ensures.0 ∙ ap block_of key) w.in-Some.ensures.1 w.raised.result
                (w.raised.ensures ∙ ap (λ (x : Bool). raised_by x (get_or l.bytes w.in-Some.k 0))
                (ap (in_some (take w.choose_anew-few.result w.choose_anew-few.new.near)) w.spot_at-p.ensures
                ∙ chosen_enough p (c.requires.0.within_domain n c.loop-n-test.true) w.row_of-row.result (w.row_of-row.ensures ∙ ap line_of (key ∙ c.requires.0.key n c.loop-n-test.true))
                a.circles.now w.choose_anew-few.new.near w.choose_anew-few.result c.requires.2 w.choose_anew-few.ensures)),
            w.choose_anew-few.ensures,
          )
      | in_default w ↦
          rw (w.bytes-is, w.near-is, w.line-is, w.few-is) (
            marked-past a.pool.now a.spots.now a.circles.now n l.bytes l.invariant.0 _ refl (omega (arith, w.in_default.ensures, ap block_of key)),
            l.invariant.1,
          )
    ]
