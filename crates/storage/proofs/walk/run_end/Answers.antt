-- Assumes nothing.
use Rattle.basics.specs.Words.{ap, arith}
use borrow.Author.Count.{below_more}
use Rattle.cells.specs.Inner.Key.{column_of, line_of}
use Rattle.storage.proofs.laws.RunLaws.{along}
use Rattle.storage.proofs.walk.run_end.Goals as goal

pub loop-to-preserved : goal.loop-to-preserved
loop-to-preserved c =
    let a = c.args in
    let t = c.loop-to.to in
    below_more _ t c.loop-to.invariant
    (λ p. along a.pool.now a.used c.requires.1 c.requires.2 (column_of a.low) (line_of a.low) (column_of a.high) (line_of a.high) a.from t (omega arith) c.requires.3 p c.loop-to-test.true
    (omega (arith, c.if-last-key_at.false, c.key_at-in-loop-to.ensures, ap line_of c.key_at.ensures)))
