-- Assumes nothing.
use Rattle.basics.specs.Words.{arith}
use Rattle.box_tables.proofs.laws.CornerLaws as corners
use Rattle.box_tables.proofs.way.way_of.Goals as goal
use Rattle.box_tables.proofs.way.way_of.Goals.{After-row_of-2}

-- what is known of the cells past the two lines
between : (c : After-row_of-2) → corners.Between c.args.a c.args.b c.key_of-low.result c.key_of-high.result c.column_of.result c.column_of-2.result c.row_of.result c.row_of-2.result
between c =
    record {
      upright = c.requires.1;
      low-key = c.key_of-low.ensures;
      high-key = c.key_of-high.ensures;
      high_column = c.column_of.ensures;
      low_column = c.column_of-2.ensures;
      high_line = c.row_of.ensures;
      low_line = c.row_of-2.ensures;
    }

pub overflow_sub-wide : goal.overflow_sub-wide
overflow_sub-wide c = corners.wide_some c.requires.1 c.key_of-low.ensures c.key_of-high.ensures c.column_of.ensures c.column_of-2.ensures

pub overflow_sub-tall : goal.overflow_sub-tall
overflow_sub-tall c = corners.tall_some (between (goal.at.overflow_sub-tall c).After-row_of-2)

pub overflow_mul-cells : goal.overflow_mul-cells
overflow_mul-cells c = omega (arith, corners.many-most (between (goal.at.overflow_mul-cells c).After-row_of-2))

pub returns-then-cells-gt-MOST_CELLS : goal.returns-then-cells-gt-MOST_CELLS
returns-then-cells-gt-MOST_CELLS c g = omega (arith, g, corners.many (between (goal.at.returns-then-cells-gt-MOST_CELLS c).After-row_of-2), c.if-cells-gt-MOST_CELLS.true)

pub returns : goal.returns
returns c =
    let b = between (goal.at.returns c).After-row_of-2 in
    (omega (arith, corners.many b, c.if-cells-gt-MOST_CELLS.false), corners.way_by b c.args.s c.item_of.result c.item_of.ensures)
