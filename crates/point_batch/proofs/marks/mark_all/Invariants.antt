-- `point_batch::marks::mark_all`: the entries below j are done, and the row at c is not past that of the entry at j. A turn goes to the next row or to the
-- next entry, and the measure is how many of both are left. Assumes nothing.
use Rattle.basics.specs.Words.{◌+◌, ◌-◌, ◌≤◌, length}
use Rattle.point_batch.specs.Inner.Marks.{Walkable, MarkedTo}
use Rattle.point_batch.proofs.laws.MarkLaws.{Ahead}
use Rattle.point_batch.proofs.marks.mark_all.Given as goal

abbrev pub invariant-loop-j : goal.invariant-loop-j
invariant-loop-j l =
    (w : Walkable l.nums l.pool l.used l.fn.cells l.rows) × MarkedTo l.nums l.pool l.used l.fn.cells l.rows l.cells l.j × Ahead l.pool l.used l.fn.cells l.rows l.c l.j × (l.j ≤ l.used)

abbrev pub decreases-loop-j : goal.decreases-loop-j
decreases-loop-j l = (l.used - l.j) + (length l.fn.cells - l.c)
