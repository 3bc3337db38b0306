-- A range of cells: from the cell of the lower left to that of the upper right, row by row, x fastest; empty if either number is
-- reversed. Assumes nothing.
-- Here: the laws.
use Rattle.basics.specs.Words.{Bool, ◌&&◌}
use lib.Signed.{le_z}
use Rattle.cells.specs.declared.Cell.{Cell}

-- whether a cell lies in a range
unfoldable pub in_range : Cell → Cell → Cell → Bool
in_range a b c = (le_z a.x c.x && le_z c.x b.x) && (le_z a.y c.y && le_z c.y b.y)
