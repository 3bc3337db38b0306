-- Assumes nothing.
use Rattle.basics.specs.Words.{sym, ap, ◌∙◌, [], arith}
use Rattle.trace_splits.specs.Meaning.Sofar.{sofar}
use Rattle.trace_blocks.specs.Meaning.Next.{nexted}
use Rattle.trace_blocks.proofs.laws.NextLaws.{at_end, a_record, no_record_lem}
use Rattle.trace_blocks.proofs.records.next_record.Goals as goal

pub returns : goal.returns
returns c = sym (c.loop-at.invariant.1 ∙ at_end _ _ _ c.loop-at.at (omega arith) ∙ ap (nexted (sofar c.loop-at.line c.loop-at.so_far) []) (omega (arith, c.max.ensures)))

pub loop-at-preserved : goal.loop-at-preserved
loop-at-preserved c =
    (omega arith, rw c.step-ended.auto.line (c.loop-at.invariant.1 ∙ no_record_lem _ _ _ _ (omega arith) _ c.step-ended.result c.step-ended.ensures (sym c.is_some.ensures ∙ c.if-is_some.false)))

pub returns-then-is_some : goal.returns-then-is_some
returns-then-is_some c =
    sym (c.loop-at.invariant.1 ∙ a_record _ _ _ _ (omega arith) _ c.step-ended.result c.step-ended.ensures (sym c.is_some.ensures ∙ c.if-is_some.true))
