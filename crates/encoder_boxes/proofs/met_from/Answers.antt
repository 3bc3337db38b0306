-- Assumes nothing.
use Rattle.basics.specs.Words.{◌≡◌, sym, ap, ◌∙◌, [], get_or}
use Rattle.geometry.specs.Meaning.Intersects.{intersects}
use Rattle.encoder_boxes.specs.Inner.Windows.{crosses}
use Rattle.encoder_boxes.proofs.laws.MetLaws.{met-found, met_next, met-past}
use Rattle.encoder_boxes.proofs.met_from.Goals as goal
use Rattle.encoder_boxes.proofs.met_from.Goals.{After-intersects}

-- what the test said of the entry at hand
said : (c : After-intersects) → c.intersects.result ≡ crosses c.args.reals.now c.args.q (get_or c.args.pool.now c.loop-j.j [])
said c = c.intersects.ensures ∙ ap (intersects c.args.q) c.load_box-b.ensures

pub returns-then-last-key : goal.returns-then-last-key
returns-then-last-key c = sym (c.loop-j.invariant ∙ met-past c.requires c.args.last c.args.q c.loop-j.j c.loop-j-test.true c.if-last-key.true)

pub returns-then-intersects : goal.returns-then-intersects
returns-then-intersects c =
    sym (c.loop-j.invariant ∙ met-found c.requires c.args.last c.args.q c.loop-j.j c.loop-j-test.true c.if-last-key.false (sym (said (goal.at.returns-then-intersects c).After-intersects) ∙ c.if-intersects.true))

pub loop-j-preserved : goal.loop-j-preserved
loop-j-preserved c = c.loop-j.invariant ∙ met_next c.requires c.args.last c.args.q c.loop-j.j c.loop-j-test.true (sym (said (goal.at.loop-j-preserved c).After-intersects) ∙ c.if-intersects.false)
