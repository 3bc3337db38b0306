-- `geometry::radius_in_domain` meets its contract. Assumes nothing.
use Rattle.basics.specs.Words.{ap, ◌∙◌}
use lib.Ieee.{Float, le}
use Rattle.basics.proofs.laws.Says.{also}
use Rattle.geometry.proofs.Tests.{both, nought, most}
use Rattle.geometry.proofs.radius_in_domain.Statement.{statement}
use Rattle.geometry.proofs.radius_in_domain.Tie as tie

returns : tie.Need-returns
returns c = both (ap (λ (z : Float). le z c.args.radius) nought) (ap (le c.args.radius) most) ∙ also c.well_formed.0.1

pub radius_in_domain_spec : {M : Type 1} → statement M
radius_in_domain_spec = tie.close (tie.spec returns)
