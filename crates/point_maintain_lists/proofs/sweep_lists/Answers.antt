-- The cell at hand is a row in use of the table. Assumes nothing.
use Rattle.basics.specs.Words.{ℕ, ◌<◌, List, [], get_or, ap, length-take-le, get_or-take, eqb, arith}
use Rattle.point_tables.specs.Meaning.Tables.{tables, rows_of}
use Rattle.point_tables.proofs.laws.HoldsLaws.{rows_in_cells}
use Rattle.point_maintain_lists.proofs.laws.SweepingLaws.{sweeping_turn, sweeping_done}
use Rattle.point_maintain_lists.proofs.sweep_lists.Goals as goal

pub loop-cell-preserved : goal.loop-cell-preserved
loop-cell-preserved c =
    let a = c.args in
    let t = tables a.nums.now a.reals.now a.ints.now a.map.now a.pool.now a.spots.now a.cells.now in
    let l : c.loop-cell.cell-index < rows_of t = omega (arith, length-take-le (rows_of t) a.cells.now (rows_in_cells t c.requires)) in
    let row = get_or-take (rows_of t) a.cells.now c.loop-cell.cell-index [] l in
    sweeping_turn c.requires c.loop-cell.invariant l (rw row at c.list_end-to.ensures) _ (ap (λ (r : List ℕ). eqb (get_or r 1 0) 1) row) c.sweep_run-w.ensures

pub returns : goal.returns
returns c =
    let a = c.args in
    let t = tables a.nums.now a.reals.now a.ints.now a.map.now a.pool.now a.spots.now a.cells.now in
    sweeping_done c.requires c.loop-cell.invariant (omega (arith, length-take-le (rows_of t) a.cells.now (rows_in_cells t c.requires)))
