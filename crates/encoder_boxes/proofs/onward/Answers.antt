-- Assumes nothing.
use Rattle.basics.specs.Words.{[], arith}
use Rattle.storage.specs.Meaning.Entries.{row_key}
use Rattle.storage.proofs.laws.CutLaws.{low_of, high_of, most_of}
use Rattle.encoder_boxes.proofs.onward.Goals as goal

pub loop-j-preserved : goal.loop-j-preserved
loop-j-preserved c =
    let a = c.args in
    omega (arith, low_of row_key a.key [] a.pool.now a.used c.requires.0 c.requires.1 c.loop-j.j (omega arith) (omega (arith, c.key_at.ensures)))

pub returns-else-key_at-key : goal.returns-else-key_at-key
returns-else-key_at-key c =
    let a = c.args in
    omega (arith, high_of row_key a.key [] a.pool.now a.used c.requires.0 c.requires.1 c.loop-j.j (omega arith) (omega (arith, c.key_at.ensures)))

pub returns-after-loop-j : goal.returns-after-loop-j
returns-after-loop-j c = let a = c.args in omega (arith, most_of row_key a.key [] a.pool.now a.used c.requires.0 c.requires.1)
