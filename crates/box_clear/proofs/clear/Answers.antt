-- Assumes nothing.
use Rattle.basics.specs.Words.{arith}
use Rattle.box_clear.proofs.Cleared.{done}
use Rattle.box_clear.proofs.clear.Goals as goal

pub returns : goal.returns
returns c =
    rw c.from-2.ensures
    (done _ _ _ _ _ _ _ c.count_live-n.ensures (cc) (omega (arith, c.min.ensures)) _ _ _ _ c.put_boxes.ensures.boxes c.put_boxes.ensures.objs c.empty_all.ensures.nums c.empty_all.ensures.map)
