-- `geometry::distance_squared` meets its contract. Assumes nothing.
use Rattle.basics.specs.Words.{refl}
use Rattle.geometry.specs.Meaning.Circle.{distance_squared}
use Rattle.geometry.proofs.distance_squared.Statement.{statement}
use Rattle.geometry.proofs.distance_squared.Tie as tie

returns : tie.Need-returns
unfolding distance_squared
returns c = refl

pub distance_squared_spec : {M : Type 1} → statement M
distance_squared_spec = tie.close (tie.spec returns)
