-- Found, and not named, that the tables hold a grid: so the edit that takes any tables fails at this fact. Assumes nothing.
use Rattle.point_insert.proofs.Chosen.{fresh}
use Rattle.point_insert.proofs.inserting.enter.Goals as goal

pub put-requires : goal.put-requires
put-requires c = fresh _ _ _ _ _ _ _ _ _ _ (cc) c.in_ok-s.ensures.0 c.in_ok-s.ensures.1
