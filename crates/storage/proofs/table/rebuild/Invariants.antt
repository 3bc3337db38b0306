-- `storage::table::rebuild`: the table is that of the entries passed. Assumes nothing.
use Rattle.storage.proofs.laws.RebuildLaws.{Built}
use Rattle.storage.proofs.table.rebuild.Given as goal

abbrev pub invariant-loop-j : goal.invariant-loop-j
invariant-loop-j l = Built l.fn.cells l.pool l.j l.rows l.cells
