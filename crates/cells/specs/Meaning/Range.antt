-- A range of cells: from the cell of the lower left to that of the upper right, row by row, x fastest; empty if either number is
-- reversed. Assumes nothing.
use Rattle.std.specs.Prelude.{◌*◌, ◌∷◌, ◌++◌, ◌+ℤ◌, ◌-ℤ◌}
use Rattle.basics.specs.Words.{ℕ, zero, suc, List, [], ℤ, pos, negsuc}
use Rattle.cells.specs.declared.Cell.{Cell}

-- how many whole numbers there are from a to b, both counted
abbrev pub counted : ℤ → ℕ
counted (pos n) = suc n
counted (negsuc n) = 0

abbrev pub count_from : ℤ → ℤ → ℕ
count_from a b = counted (b -ℤ a)

-- the number of cells of a range: none if it is reversed on either axis
unfoldable pub cells_in : Cell → Cell → ℕ
cells_in a b = count_from a.x b.x * count_from a.y b.y

-- n cells of row y, from x on
abbrev pub row : ℤ → ℤ → ℕ → List Cell
row y x zero = []
row y x (suc n) = record { x = x; y = y } ∷ row y (x +ℤ pos 1) n

-- m rows of n cells, from the cell (x, y) on
abbrev pub rows : ℤ → ℤ → ℕ → ℕ → List Cell
rows x y n zero = []
rows x y n (suc m) = row y x n ++ rows x (y +ℤ pos 1) n m

-- the cells of a range, in its order
unfoldable pub range_cells : Cell → Cell → List Cell
range_cells a b = rows a.x a.y (count_from a.x b.x) (count_from a.y b.y)
