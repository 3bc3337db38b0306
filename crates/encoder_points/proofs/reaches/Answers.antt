-- Assumes nothing.
use Rattle.cells.proofs.laws.ReachLaws.{low_reached, high_reached}
use Rattle.encoder_points.specs.Meaning.Points.{centre_of, radius_of}
use Rattle.encoder_points.proofs.reaches.Goals as goal

pub cell_id-low-requires-clause-t : goal.cell_id-low-requires-clause-t
cell_id-low-requires-clause-t c = (low_reached (centre_of c.args.circle) (radius_of c.args.circle) c.requires.0 c.requires.1).1

pub cell_id-high-requires-clause-t : goal.cell_id-high-requires-clause-t
cell_id-high-requires-clause-t c = (high_reached (centre_of c.args.circle) (radius_of c.args.circle) c.requires.0 c.requires.1).1
