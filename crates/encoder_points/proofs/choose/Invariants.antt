-- `encoder_points::choose`: of the circles passed, those that reach the row stand first. Assumes nothing.
use Rattle.basics.specs.Words.{◌≤◌, ◌≡◌, length, take}
use Rattle.storage.specs.Meaning.Keyed.{filter}
use Rattle.encoder_points.specs.Meaning.Points.{most_circles}
use Rattle.encoder_points.specs.Inner.Near.{reaches}
use Rattle.encoder_points.proofs.choose.Given as goal

abbrev pub invariant-loop-circle : goal.invariant-loop-circle
invariant-loop-circle l = (length l.near ≡ most_circles) × (l.n ≤ l.circle-index) × (take l.n l.near ≡ filter (reaches l.line) (take l.circle-index l.circles))
