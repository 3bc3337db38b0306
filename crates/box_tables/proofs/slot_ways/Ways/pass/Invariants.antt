-- `box_tables::slot_ways::Ways::pass`: the first entries are passed. Assumes nothing.
use Rattle.box_tables.proofs.laws.PassLaws.{Going}
use Rattle.box_tables.proofs.slot_ways.Ways.pass.Given as goal

abbrev pub invariant-loop-j : goal.invariant-loop-j
invariant-loop-j l = Going l.pool l.fn.self l.self l.j l.before
