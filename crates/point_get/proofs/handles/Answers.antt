-- Assumes nothing.
use Rattle.point_get.proofs.Reading.{listed}
use Rattle.point_get.proofs.handles.Goals as goal

pub returns : goal.returns
returns c = rw c.from-2.ensures (listed _ _ _ _ _ _ _ _ (cc) c.if-out-n.false _ c.put_handles.ensures)
