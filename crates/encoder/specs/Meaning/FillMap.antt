-- `fill_map`: its refusals, and what it answers and writes. Assumes nothing.
use Rattle.std.specs.Prelude.{◌&&◌, ◌∷◌, Float}
use Rattle.basics.specs.Words.{ℕ, Bool, true, List, [], length, eqb, leb}
use Rattle.basics.specs.Meaning.Limits.{most_cells}
use Rattle.basics.specs.Meaning.Refusals.{Refusal, unless, by_tests}
use Rattle.geometry.specs.Meaning.Domain.{position_in_domain, radius_in_domain}
use Rattle.geometry.specs.Meaning.Circle.{corner_below, corner_above}
use Rattle.cells.specs.Meaning.CellRule.{cell_at}
use Rattle.cells.specs.Meaning.Range.{cells_in}
use Rattle.point_tables.specs.Meaning.Tables as Points
use Rattle.point_tables.specs.Meaning.Decide as PointsDecide
use Rattle.box_tables.specs.Meaning.Tables as Boxes
use Rattle.box_tables.specs.Meaning.Decide as BoxesDecide
use Rattle.encoder_blocks.specs.Meaning.Blocks.{side, blocks}
use Rattle.encoder_points.specs.Meaning.Points.{most_circles, centre_of, radius_of}
use Rattle.encoder.specs.Meaning.Map.{map_of}

abbrev pub every : {A : Type 0} → (A → Bool) → List A → Bool
every test [] = true
every test (x ∷ l) = test x && every test l

-- ---- 3: the tables of each grid hold one, with cells of 16; there are at most 16 circles, and the map has 3,600 bytes
abbrev pub grids_right : Points.Tables → Boxes.Tables → Bool
grids_right t b = (PointsDecide.holds t && eqb (Points.size_of t) side) && (BoxesDecide.holds b && eqb (Boxes.size_of b) side)

abbrev pub lengths_right : List (List Float) → List ℕ → Bool
lengths_right circles bytes = leb (length circles) most_circles && eqb (length bytes) blocks

-- ---- 6: a circle's numbers are in the domain
abbrev pub circle_in_domain : List Float → Bool
circle_in_domain c = position_in_domain (centre_of c) && radius_in_domain (radius_of c)

-- ---- 7: its range has at most 4,096 cells
abbrev pub circle_in_range : List Float → Bool
circle_in_range c = leb (cells_in (cell_at side (corner_below (centre_of c) (radius_of c))) (cell_at side (corner_above (centre_of c) (radius_of c)))) most_cells

-- all circles are looked at for 6 before one is for 7
abbrev pub fill_map_tests : Points.Tables → Boxes.Tables → List (List Float) → List ℕ → List Refusal
fill_map_tests t b circles bytes =
    unless (lengths_right circles bytes && grids_right t b) 3
    ∷ unless (every circle_in_domain circles) 6
    ∷ unless (every circle_in_range circles) 7
    ∷ []

-- ---- what it returns, and the map after it
pub record MapFilled : Type 0 where
  pub answer : ℕ
  pub bytes : List ℕ

abbrev pub map_filled : ℕ → List ℕ → MapFilled
map_filled a m = record { answer = a; bytes = m }

unfoldable pub fill_map_of : Points.Tables → Boxes.Tables → List (List Float) → List ℕ → MapFilled
unfolding map_of
fill_map_of t b circles bytes = by_tests (fill_map_tests t b circles bytes) (map_filled 0 (map_of t b circles)) (λ a. map_filled a bytes)
