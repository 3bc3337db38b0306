-- `trace_blocks::next_record`: what is still to be found from here on is what was to be found from the start on. Assumes nothing.
use Rattle.basics.specs.Words.{◌≤◌, ◌≡◌, max, length, drop}
use Rattle.trace_splits.specs.Meaning.Sofar.{sofar}
use Rattle.trace_blocks.specs.Meaning.Next.{next_of}
use Rattle.trace_blocks.proofs.records.next_record.Given as goal

abbrev pub invariant-loop-at : goal.invariant-loop-at
invariant-loop-at l =
    (l.at ≤ max l.from (length l.block)) ×
    (next_of (length l.fn.line) (sofar l.fn.line l.fn.state) l.from (drop l.from l.block) ≡ next_of (length l.line) (sofar l.line l.so_far) l.at (drop l.at l.block))
