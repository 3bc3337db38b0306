-- `point_tables::free_ok`: every slot before i that the map has is free. The measure is what is left of the slots. Assumes nothing.
use Rattle.basics.specs.Words.{ℕ, ◌-◌, ◌<◌, length}
use Rattle.point_tables.specs.Inner.Check.{FreeAt}
use Rattle.point_tables.proofs.free_ok.Given as goal

abbrev pub invariant-loop-i : goal.invariant-loop-i
invariant-loop-i l = (s : ℕ) → s < l.i → s < length l.nums → FreeAt l.nums l.map s

abbrev pub decreases-loop-i : goal.decreases-loop-i
decreases-loop-i l = length l.nums - l.i
