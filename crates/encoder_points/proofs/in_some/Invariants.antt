-- `encoder_points::in_some`: some circle holds the position exactly if one of those ahead does. Assumes nothing.
use Rattle.basics.specs.Words.{◌≡◌, drop}
use Rattle.encoder_points.specs.Inner.Marks.{in_some}
use Rattle.encoder_points.proofs.in_some.Given as goal

abbrev pub invariant-loop-circle : goal.invariant-loop-circle
invariant-loop-circle l = in_some l.circles l.p ≡ in_some (drop l.circle-index l.circles) l.p
