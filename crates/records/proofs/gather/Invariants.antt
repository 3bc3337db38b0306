-- `records::gather`: the first i records are those of the rows. Assumes nothing.
use Rattle.basics.specs.Words.{◌≡◌}
use Rattle.records.proofs.LoopLaws.{first_gathered}
use Rattle.records.proofs.gather.Given as goal

abbrev pub invariant-loop-i : goal.invariant-loop-i
invariant-loop-i l = l.records ≡ first_gathered l.nums l.reals l.ints l.initial.records l.i
