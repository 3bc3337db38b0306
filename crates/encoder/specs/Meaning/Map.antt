-- The map for the encoder: a byte for each block of the frame, row by row from the block at (0, 0). Assumes nothing.
use Rattle.std.specs.Prelude.{◌/◌, ◌%◌, ◌∷◌, ◌++◌, Float}
use Rattle.basics.specs.Words.{ℕ, zero, suc, List, [], map}
use Rattle.basics.specs.Meaning.Refusals.{pick}
use Rattle.point_tables.specs.Meaning.Tables as Points
use Rattle.box_tables.specs.Meaning.Tables as Boxes
use Rattle.encoder_blocks.specs.Meaning.Blocks.{columns, blocks}
use Rattle.encoder_points.specs.Meaning.Points.{circled, recorded}
use Rattle.encoder_boxes.specs.Meaning.Boxes.{boxed}

-- block (i, j): a point that some circle finds lies in it; else the box query with its four corners finds a box; else some recorded point lies in it
abbrev pub byte_of : Points.Tables → Boxes.Tables → List (List Float) → ℕ → ℕ → ℕ
byte_of t b circles i j = pick (circled t circles i j) 3 (pick (boxed b i j) 2 (pick (recorded t i j) 1 0))

-- the numbers below n
unfoldable pub numbers : ℕ → List ℕ
numbers zero = []
numbers (suc n) = numbers n ++ (n ∷ [])

-- byte j * 80 + i is block (i, j)
unfoldable pub map_of : Points.Tables → Boxes.Tables → List (List Float) → List ℕ
map_of t b circles = map (λ k. byte_of t b circles (k % columns) (k / columns)) (numbers blocks)
