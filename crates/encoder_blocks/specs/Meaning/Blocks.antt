-- The blocks of the frame, 16 by 16 each: 80 to a row and 45 rows, from the block at (0, 0) on, y growing downwards. Block (i, j) goes from
-- (16 i, 16 j) to (16 i + 16, 16 j + 16). Assumes nothing.
use Rattle.std.specs.Prelude.{◌*◌, ◌&&◌, Float}
use Rattle.basics.specs.Words.{ℕ, suc, Bool, pos}
use Rattle.std.specs.Float.{binary32}
use Rattle.std.specs.Float.Ieee.{of_int, lt, le}
use Rattle.geometry.specs.declared.Position.{Position}
use Rattle.geometry.specs.declared.Aabb.{Aabb}

-- the side of a block, which both grids have as their cell size; the blocks of a row, the rows, and all blocks
abbrev pub side : ℕ
side = 16

abbrev pub columns : ℕ
columns = 80

abbrev pub lines : ℕ
lines = 45

abbrev pub blocks : ℕ
blocks = 3600

-- where column or row n begins
abbrev pub begins : ℕ → Float
begins n = of_int binary32 (pos (n * side))

-- left and top edge in, right and bottom out
unfoldable pub in_block : ℕ → ℕ → Position → Bool
in_block i j p = (le (begins i) p.x && lt p.x (begins (suc i))) && (le (begins j) p.y && lt p.y (begins (suc j)))

-- the box from corner to corner: a query of it counts all four edges
abbrev pub block_box : ℕ → ℕ → Aabb
block_box i j = record { ll = record { x = begins i; y = begins j }; ur = record { x = begins (suc i); y = begins (suc j) } }
