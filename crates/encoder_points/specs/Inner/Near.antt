-- The circles that reach a row of cells: no other holds a point of that row. Assumes nothing.
use Rattle.std.specs.Prelude.{◌<◌, ◌≤◌, ◌≡◌, ◌&&◌, Float}
use Rattle.basics.specs.Words.{ℕ, Bool, List, length, take, leb, T, pos}
use Rattle.std.specs.Float.{binary32}
use Rattle.std.specs.Float.Ieee.{add, sub}
use Rattle.geometry.specs.Meaning.Domain.{position_in_domain, radius_in_domain}
use Rattle.cells.specs.Meaning.CellRule.{cell_of, cell_at}
use Rattle.cells.specs.Meaning.Key.{upward, key_of}
use Rattle.storage.specs.Meaning.Keyed.{filter}
use Rattle.storage.specs.Meaning.Packed.{first}
use Rattle.point_records.specs.Inner.Listed.{spot_at}
use Rattle.encoder_blocks.specs.Meaning.Blocks.{side}
use Rattle.encoder_points.specs.Meaning.Points.{most_circles, centre_of, radius_of}

-- a circle whose numbers are in the domain
abbrev pub Fine : List Float → Type 0
Fine c = T (position_in_domain (centre_of c)) × T (radius_in_domain (radius_of c))

-- its range has cells of the row `line`, a number of a key
abbrev pub reaches : ℕ → List Float → Bool
reaches line c =
    leb (upward (cell_of (pos side) (sub binary32 (centre_of c).y (radius_of c)))) line
    && leb line (upward (cell_of (pos side) (add binary32 (centre_of c).y (radius_of c))))

-- the first n of `near` are those of the circles that reach the row
pub record Chosen (circles : List (List Float)) (line : ℕ) (near : List (List Float)) (n : ℕ) : Type 0 where
  pub size : length near ≡ most_circles
  pub most : n ≤ most_circles
  pub those : take n near ≡ filter (reaches line) circles

-- what the pass asks of the columns: each of the first `used` entries has a position of the domain, under the key of its cell
pub record Placed (pool : List (List ℕ)) (spots : List (List Float)) (used : ℕ) : Type 0 where
  pub in_pool : used ≤ length pool
  pub in_spots : used ≤ length spots
  pub within_domain : (j : ℕ) → j < used → T (position_in_domain (spot_at spots j))
  pub key : (j : ℕ) → j < used → first pool j ≡ key_of (cell_at side (spot_at spots j))
