-- `geometry::in_circle` meets its contract. Assumes nothing.
use Rattle.basics.specs.Words.{ap, rules}
use lib.Ieee.{Float, binary32, lt, mul}
use Rattle.geometry.specs.Meaning.Circle.{in_circle}
use Rattle.geometry.proofs.in_circle.Statement.{statement}
use Rattle.geometry.proofs.in_circle.Tie as tie

returns : tie.Need-returns
unfolding in_circle
returns c = let r = c.before.args.radius in ap (λ (d : Float). lt d (mul binary32 r r)) c.distance_squared.ensures

pub in_circle_spec : {M : Type 1} → statement M
in_circle_spec = tie.close (tie.spec (λ c κs. search rules) returns)
