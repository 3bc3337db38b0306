-- Assumes nothing.
use Rattle.cells.proofs.laws.ReachLaws.{domain_reached}
use Rattle.box_tables.proofs.guess.near_cell.Goals as goal

pub cell_id-requires-clause-t : goal.cell_id-requires-clause-t
cell_id-requires-clause-t c = domain_reached c.args.x c.requires.1
