-- `records::spread`: the first i rows of the column are those of the records. Assumes nothing.
use Rattle.basics.specs.Words.{◌≡◌}
use Rattle.point_records.specs.Meaning.Columns.{nums_of, reals_of, ints_of}
use Rattle.records.proofs.LoopLaws.{first_laid}
use Rattle.records.proofs.spread.Given as goal

abbrev pub invariant-nums : goal.invariant-nums
invariant-nums l = l.nums ≡ first_laid nums_of l.records l.initial.nums l.i

abbrev pub invariant-reals : goal.invariant-reals
invariant-reals l = l.reals ≡ first_laid reals_of l.records l.initial.reals l.i

abbrev pub invariant-ints : goal.invariant-ints
invariant-ints l = l.ints ≡ first_laid ints_of l.records l.initial.ints l.i
