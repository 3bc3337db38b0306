-- Assumes nothing.
use Rattle.basics.specs.Words.{arith}
use Rattle.point_clear.proofs.Cleared.{done}
use Rattle.point_clear.proofs.clear.Goals as goal

pub returns : goal.returns
returns c =
    rw c.from-2.ensures
    (done _ _ _ _ _ _ _ _ _ (cc) (omega (arith, c.min.ensures)) _ _ _ _ c.put_objects.ensures.places c.put_objects.ensures.objs c.empty_all.ensures.nums c.empty_all.ensures.map)
