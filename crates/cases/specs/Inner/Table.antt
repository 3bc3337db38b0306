-- The nine rows of the cell table and the cases C1 to C5, with the rounding case of the box test, as one table and one computed test.
-- Assumes nothing.
use Rattle.std.specs.Prelude.{◌+◌, ◌≡◌, ◌&&◌, ◌∷◌, ◌++◌}
use Rattle.basics.specs.Words.{refl, Bool, true, List, [], map, length}
use Rattle.std.specs.Float.Ieee.{fits}
use Rattle.cells.proofs.laws.CellTable
use Rattle.geometry.proofs.laws.Cases

pub data Line : Type 0 where
  cell : CellTable.Row → Line
  case : Cases.Row → Line

pub right : Line → Bool
unfolding CellTable.right Cases.right
right (cell r) = CellTable.right r
right (case r) = Cases.right r

pub all : List Line → Bool
unfolding right
all [] = true
all (l ∷ ls) = right l && all ls

pub table : List Line
unfolding CellTable.table Cases.table
table = map cell CellTable.table ++ map case Cases.table

pub table-holds : all table ≡ true
unfolding all table fits
table-holds = refl

-- the nine rows and the cases are all there
pub table-length : length table ≡ 9 + 18
unfolding table
table-length = refl
