-- The place of a block in the map, and the block of a cell by its key. Assumes nothing.
use Rattle.std.specs.Prelude.{◌+◌, ◌-◌, ◌*◌, ◌/◌, ◌%◌, ◌&&◌}
use Rattle.basics.specs.Words.{ℕ, Bool, leb, ltb, pos}
use Rattle.basics.specs.Meaning.Refusals.{pick}
use Rattle.cells.specs.declared.Cell.{Cell}
use Rattle.cells.specs.Inner.Key.{column_of, line_of}
use Rattle.encoder_blocks.specs.Meaning.Blocks.{columns, lines, blocks}

-- byte j * 80 + i of the map is block (i, j)
abbrev pub place_of : ℕ → ℕ → ℕ
place_of i j = j * columns + i

-- the column and the row of the block at a place
abbrev pub column_at : ℕ → ℕ
column_at k = k % columns

abbrev pub line_at : ℕ → ℕ
line_at k = k / columns

-- cell (i, j)
abbrev pub cell : ℕ → ℕ → Cell
cell i j = record { x = pos i; y = pos j }

-- the number from which cell numbers that are not below zero are counted in a key
abbrev pub nought : ℕ
nought = 2147483648

-- a number counted so that is one of the first n
abbrev pub among : ℕ → ℕ → Bool
among n x = leb nought x && ltb x (nought + n)

-- the place of the block whose cell has this key, or 3,600 if the frame has no such block
unfoldable pub block_of : ℕ → ℕ
block_of key = pick (among columns (column_of key) && among lines (line_of key)) (place_of (column_of key - nought) (line_of key - nought)) blocks
