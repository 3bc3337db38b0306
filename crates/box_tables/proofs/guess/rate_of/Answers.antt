-- Assumes nothing.
use lib.Ieee.{of_bits, fits, le, lt, eq}
use Rattle.box_tables.proofs.guess.rate_of.Goals as goal

pub returns-else-in_domain : goal.returns-else-in_domain
unfolding of_bits fits le lt eq
returns-else-in_domain c = tt
