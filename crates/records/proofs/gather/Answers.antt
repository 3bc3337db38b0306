-- What one turn does to the records, and that all are those of the rows past the last one. Assumes nothing.
use Rattle.basics.specs.Words.{sym, ◌∙◌, add-one, arith}
use Rattle.records.proofs.LoopLaws.{gathered_0, gathered_all, gathered_next}
use Rattle.records.proofs.gather.Goals as goal

pub loop-i-init : goal.loop-i-init
loop-i-init c = sym (gathered_0 c.args.nums.now c.args.reals.now c.args.ints.now c.args.records.now)

pub loop-i-preserved : goal.loop-i-preserved
loop-i-preserved c =
    let a = c.args in
    let n = gathered_next a.nums.now a.reals.now a.ints.now a.records.now c.loop-i.i (omega arith) (omega arith) (omega arith) in
    let s = add-one c.loop-i.i in
    cc

pub returns : goal.returns
returns c =
    let a = c.args in
    c.loop-i.invariant ∙ gathered_all a.nums.now a.reals.now a.ints.now a.records.now c.loop-i.i (omega arith)
