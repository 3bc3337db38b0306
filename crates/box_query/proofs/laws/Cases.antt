-- Document 01's cases of boxes and cells, as data and one computed test: whether the query box intersects the stored one and whether
-- their ranges share a cell; how many cells a box covers. Numbers are bit patterns. Assumes nothing.
use Rattle.basics.specs.Words.{ℕ, ◌≡◌, refl, Bool, true, false, ◌&&◌, beq, List, [], ◌∷◌, eqb}
use lib.Ieee.{binary32, of_bits, lt, le, eq, add, sub, neg}
use Rattle.geometry.specs.declared.Aabb.{Aabb}
use Rattle.geometry.specs.Meaning.Intersects.{overlaps, intersects}
use Rattle.cells.specs.Meaning.CellRule.{cell_of}
use Rattle.cells.specs.Meaning.Range.{cells_in}
use Rattle.box_tables.specs.Meaning.Tables.{covers}
use Rattle.box_search.proofs.laws.Shared.{ranged}

-- lower left and upper right
abbrev pub box : ℕ → ℕ → ℕ → ℕ → Aabb
box x y z w =
    record {
      ll = record { x = of_bits binary32 x; y = of_bits binary32 y };
      ur = record { x = of_bits binary32 z; y = of_bits binary32 w };
    }

pub data Row : Type 0 where
  -- size, query box, stored box; whether it intersects, and whether a cell is shared
  pair : ℕ → Aabb → Aabb → Bool → Bool → Row
  -- size, box, the cells that it covers
  cells : ℕ → Aabb → ℕ → Row

unfoldable pub right : Row → Bool
unfolding of_bits lt le eq add sub neg overlaps intersects cell_of cells_in
right (pair size q b meets shares) = beq (intersects q b) meets && beq (ranged size q b) shares
right (cells size b n) = eqb (covers size b) n

unfoldable pub all : List Row → Bool
unfolding right
all [] = true
all (r ∷ rs) = right r && all rs

-- x from 0 to 1 - 2 ^ -24, and x from 1 to 3, both y 0 to 0
abbrev pub stored : Aabb
stored = box 0x00000000 0x00000000 0x3f7fffff 0x00000000

abbrev pub asked : Aabb
asked = box 0x3f800000 0x00000000 0x40400000 0x00000000

-- (0, 0)-(63, 63), and (0, 0)-(64, 63)
abbrev pub square : Aabb
square = box 0x00000000 0x00000000 0x427c0000 0x427c0000

abbrev pub wider : Aabb
wider = box 0x00000000 0x00000000 0x42800000 0x427c0000

unfoldable pub table : List Row
unfolding of_bits
table =
    -- it intersects by rounding: a cell is shared at size 10, and not at size 1
    pair 10 asked stored true true
    ∷ pair 1 asked stored true false
    -- C5: (0, 0)-(10, 10) and (10, 0)-(20, 5)
    ∷ pair 10 (box 0x00000000 0x00000000 0x41200000 0x41200000) (box 0x41200000 0x00000000 0x41a00000 0x40a00000) true true
    -- one further right the boxes do not meet, though a cell is shared at size 16
    ∷ pair 16 (box 0x00000000 0x00000000 0x41200000 0x41200000) (box 0x41300000 0x00000000 0x41a00000 0x40a00000) false true
    ∷ cells 1 square 4096
    ∷ cells 1 wider 4160
    ∷ []

pub cases_hold : all table ≡ true
unfolding all table
cases_hold = refl
