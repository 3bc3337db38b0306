-- The cell rule may be asked of both corners. Assumes nothing.
use Rattle.basics.specs.Words.{sym, subst}
use Rattle.cells.specs.Inner.CellRule.{Reached}
use Rattle.cells.specs.Inner.Numbers.{Near}
use Rattle.cells.proofs.laws.CellRuleLaws.{cell-near}
use Rattle.cells.proofs.laws.ReachLaws.{low_reached, high_reached}
use Rattle.encoder_blocks.specs.Meaning.Blocks.{side}
use Rattle.encoder_points.specs.Meaning.Points.{centre_of, radius_of}
use Rattle.encoder.proofs.laws.DrawLaws.{fine}
use Rattle.encoder.proofs.circle_in_range.Goals as goal
use Rattle.encoder.proofs.circle_in_range.Goals.{After-corner_below, After-corner_above}

below : (c : After-corner_below) → Reached c.corner_below.result
below c = let f = fine c.args.circle c.requires in subst Reached (sym c.corner_below.ensures) (low_reached (centre_of c.args.circle) (radius_of c.args.circle) f.0 f.1)

above : (c : After-corner_above) → Reached c.corner_above.result
above c = let f = fine c.args.circle c.requires in subst Reached (sym c.corner_above.ensures) (high_reached (centre_of c.args.circle) (radius_of c.args.circle) f.0 f.1)

pub cell_at-low-requires-clause-reached : goal.cell_at-low-requires-clause-reached
cell_at-low-requires-clause-reached c = below (goal.at.cell_at-low-requires-clause-reached c).After-corner_below

pub cell_at-high-requires-clause-reached : goal.cell_at-high-requires-clause-reached
cell_at-high-requires-clause-reached c = above (goal.at.cell_at-high-requires-clause-reached c).After-corner_above

pub cells_in-requires : goal.cells_in-requires
cells_in-requires c = (
  subst Near (sym c.cell_at-low.ensures) (cell-near side c.corner_below.result (below (goal.at.cells_in-requires c).After-corner_below)),
  subst Near (sym c.cell_at-high.ensures) (cell-near side c.corner_above.result (above (goal.at.cells_in-requires c).After-corner_above)),
)
