-- Assumes nothing.
use Rattle.basics.specs.Words.{sym, ap, ◌∙◌, [], take_all, length-set, arith}
use Rattle.storage.specs.Meaning.Keyed.{filter}
use Rattle.encoder_points.specs.Inner.Near.{reaches}
use Rattle.encoder_points.proofs.laws.NearLaws.{chosen_one, chosen_none}
use Rattle.encoder_points.proofs.choose.Goals as goal
use Rattle.encoder_points.proofs.choose.Goals.{then-reaches, else-reaches}

pub loop-circle-preserved : goal.loop-circle-preserved
loop-circle-preserved c =
    let a = c.args in
    let l = c.loop-circle in
    let h = c.loop-circle-test.true in
    elim c.if-reaches.branch [
      | then-reaches w ↦ rw (w.near-is, w.n-is) (length-set l.near l.n _ ∙ l.invariant.0, omega arith, chosen_one (reaches a.line) a.circles.now l.near l.n l.circle-index [] l.invariant.2 h (omega (arith, c.requires.0)) (sym c.reaches.ensures ∙ w.if-reaches.true))
      | else-reaches w ↦ rw (w.near-is, w.n-is) (l.invariant.0, omega arith, chosen_none (reaches a.line) a.circles.now l.near l.n l.circle-index [] l.invariant.2 h (sym c.reaches.ensures ∙ w.if-reaches.false))
    ]

pub returns : goal.returns
returns c =
    let a = c.args in
    let l = c.loop-circle in
    record { size = l.invariant.0; most = omega (arith, c.requires.0); those = l.invariant.2 ∙ ap (filter (reaches a.line)) (take_all l.circle-index a.circles.now (omega arith)) }
