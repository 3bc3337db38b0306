-- `trace_blocks::Blocks::next_record`: there is room for one answer more at every turn. Assumes nothing.
use Rattle.basics.specs.Words.{◌+◌, ◌≤◌}
use Rattle.trace_printing.specs.Meaning.Said.{longest}
use Rattle.trace_blocks.proofs.Blocks.next_record.Given as goal

abbrev pub invariant-loop : goal.invariant-loop
invariant-loop l = l.self.put + longest ≤ 65536
