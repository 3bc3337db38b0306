-- The key of a cell: one number for each cell, in the order of the rows and, in a row, of x. Assumes nothing.
-- Here: what only inner contracts cite.
use Rattle.std.specs.Prelude.{◌/◌, ◌%◌, ◌-ℤ◌}
use Rattle.basics.specs.Words.{ℕ, ℤ, pos}
use Rattle.cells.specs.declared.Cell.{Cell}

-- ---- back from a key
abbrev pub downward : ℕ → ℤ
downward n = pos n -ℤ pos 2147483648

-- the column and the line, both counted from the least
abbrev pub column_of : ℕ → ℕ
column_of key = key % 4294967296

abbrev pub line_of : ℕ → ℕ
line_of key = key / 4294967296

unfoldable pub cell_of_key : ℕ → Cell
cell_of_key key = record { x = downward (column_of key); y = downward (line_of key) }
