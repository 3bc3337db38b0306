-- `encoder_points::mark_points`: the map is marked by the entries passed, and the circles at hand are those of a row. Assumes nothing.
use Rattle.encoder_points.specs.Inner.Marks.{Marked}
use Rattle.encoder_points.specs.Inner.Near.{Chosen}
use Rattle.encoder_points.proofs.mark_points.Given as goal

abbrev pub invariant-loop-n : goal.invariant-loop-n
invariant-loop-n l = Marked l.pool l.spots l.circles l.n l.bytes × Chosen l.circles l.line l.near l.few
