-- Assumes nothing.
use Rattle.basics.specs.Words.{sym, subst}
use Rattle.cells.specs.Inner.Numbers.{Near}
use Rattle.box_tables.proofs.laws.BoxLaws.{low_reached, high_reached, low_near, high-near}
use Rattle.box_tables.proofs.spans.span_of.Goals as goal

pub cell_at-low-requires-clause-reached : goal.cell_at-low-requires-clause-reached
cell_at-low-requires-clause-reached c = low_reached c.args.b c.requires.1

pub cell_at-high-requires-clause-reached : goal.cell_at-high-requires-clause-reached
cell_at-high-requires-clause-reached c = high_reached c.args.b c.requires.1

pub cells_in-cells-requires : goal.cells_in-cells-requires
cells_in-cells-requires c =
    let a = c.args in
    (subst Near (sym c.cell_at-low.ensures) (low_near a.b c.requires.1 a.size), subst Near (sym c.cell_at-high.ensures) (high-near a.b c.requires.1 a.size))
