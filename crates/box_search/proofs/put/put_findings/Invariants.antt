-- `box_search::put::put_findings`: what the slots passed give stands in the first places. Assumes nothing.
use Rattle.basics.specs.Words.{take}
use Rattle.slot_walks.specs.Meaning.Live.{obj_at, handle_at}
use Rattle.storage.proofs.laws.PutLaws.{Rows}
use Rattle.box_search.specs.Meaning.Search.{box_row}
use Rattle.box_search.proofs.put.put_findings.Given as goal

abbrev pub invariant-loop-k : goal.invariant-loop-k
invariant-loop-k l =
    Rows (handle_at l.nums) (take l.k l.found) l.n l.fn.handles l.handles l.k × Rows (box_row l.reals) (take l.k l.found) l.n l.fn.boxes l.boxes l.k × Rows (obj_at l.nums) (take l.k l.found) l.n l.fn.objs l.objs l.k
