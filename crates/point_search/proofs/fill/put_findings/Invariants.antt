-- `point_search::fill::put_findings`: the rows of the first k places found stand in the first places of the outputs. Assumes nothing.
use Rattle.basics.specs.Words.{take}
use Rattle.point_search.specs.Inner.Fill.{handle_row_at, place_row_at, obj_row_at}
use Rattle.storage.proofs.laws.PutLaws.{Rows}
use Rattle.point_search.proofs.fill.put_findings.Given as goal

abbrev pub invariant-loop-k : goal.invariant-loop-k
invariant-loop-k l =
    Rows (handle_row_at l.nums l.pool l.spots) (take l.k l.found) l.r l.fn.handles l.handles l.k
    × Rows (place_row_at l.nums l.pool l.spots) (take l.k l.found) l.r l.fn.places l.places l.k
    × Rows (obj_row_at l.nums l.pool l.spots) (take l.k l.found) l.r l.fn.objs l.objs l.k
