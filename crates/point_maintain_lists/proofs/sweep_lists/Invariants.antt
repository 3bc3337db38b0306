-- `point_maintain_lists::sweep_lists`: the lists passed have laid what they keep, and the lists ahead are where they were. Assumes nothing.
use Rattle.point_tables.specs.Meaning.Tables.{tables}
use Rattle.point_maintain_lists.proofs.laws.SweepingLaws.{Sweeping}
use Rattle.point_maintain_lists.proofs.sweep_lists.Given as goal

abbrev pub invariant-loop-cell : goal.invariant-loop-cell
invariant-loop-cell l = Sweeping (tables l.nums l.reals l.ints l.map l.fn.pool l.fn.spots l.cells) l.cell-index l.from l.w l.pool l.spots
