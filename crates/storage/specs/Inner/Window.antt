-- A range of cells as four numbers, each counted upward from the least: lowest column, lowest row, highest column, highest row.
-- A key is a row and a column, and it lies in the window if both do. Assumes nothing.
use Rattle.std.specs.Prelude.{◌&&◌}
use Rattle.basics.specs.Words.{ℕ, Bool, leb}
use Rattle.cells.specs.Inner.Key.{column_of, line_of}
use Rattle.cells.specs.declared.Cell.{Cell}
use Rattle.cells.specs.Meaning.Key.{upward}

unfoldable pub in_window : ℕ → ℕ → ℕ → ℕ → ℕ → Bool
in_window x0 y0 x1 y1 key = (leb x0 (column_of key) && leb (column_of key) x1) && (leb y0 (line_of key) && leb (line_of key) y1)

-- the same for the range from the key `low` of its lower left cell to the key `high` of its upper right one
abbrev pub in_range : ℕ → ℕ → ℕ → Bool
in_range low high key = in_window (column_of low) (line_of low) (column_of high) (line_of high) key

-- a key in the window of the range from a to b
abbrev pub window_of : Cell → Cell → ℕ → Bool
window_of a b k = in_window (upward a.x) (upward a.y) (upward b.x) (upward b.y) k
