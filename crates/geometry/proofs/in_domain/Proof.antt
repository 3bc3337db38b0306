-- `geometry::in_domain` meets its contract. Assumes nothing.
use Rattle.basics.specs.Words.{ap, ◌∙◌}
use lib.Ieee.{Float, le}
use Rattle.basics.proofs.laws.Says.{also}
use Rattle.geometry.proofs.Tests.{both, least, most}
use Rattle.geometry.proofs.in_domain.Statement.{statement}
use Rattle.geometry.proofs.in_domain.Tie as tie

returns : tie.Need-returns
returns c = both (ap (λ (z : Float). le z c.args.x) least) (ap (le c.args.x) most) ∙ also c.well_formed.0.1

pub in_domain_spec : {M : Type 1} → statement M
in_domain_spec = tie.close (tie.spec returns)
