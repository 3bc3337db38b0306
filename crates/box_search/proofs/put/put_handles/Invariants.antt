-- `box_search::put::put_handles`: what the slots passed give stands in the first places. Assumes nothing.
use Rattle.basics.specs.Words.{take}
use Rattle.slot_walks.specs.Meaning.Live.{handle_at}
use Rattle.storage.proofs.laws.PutLaws.{Rows}
use Rattle.box_search.proofs.put.put_handles.Given as goal

abbrev pub invariant-loop-k : goal.invariant-loop-k
invariant-loop-k l = Rows (handle_at l.nums) (take l.k l.found) l.n l.fn.handles l.handles l.k
