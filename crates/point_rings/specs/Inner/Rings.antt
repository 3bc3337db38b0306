-- The rings of cells round the cell of a centre, how near their points can be, and how many of them are looked at. Assumes nothing.
use Rattle.std.specs.Prelude.{◌+◌, ◌-◌, ◌*◌, ◌<◌, ◌≡◌, ◌||◌, ◌++◌, ◌+ℤ◌, ◌-ℤ◌, Float, is_some}
use Rattle.basics.specs.Words.{ℕ, zero, suc, max, Bool, List, T, ltb, ℤ, pos}
use Rattle.std.specs.Float.{binary32}
use Rattle.std.specs.Float.Ieee.{lt, le, sub, mul}
use Rattle.basics.specs.Meaning.Limits.{most_slots}
use Rattle.basics.specs.Meaning.Refusals.{pick}
use Rattle.geometry.specs.declared.Position.{Position}
use Rattle.geometry.specs.Meaning.Domain.{position_in_domain, radius_in_domain}
use Rattle.geometry.specs.Meaning.Rectangle.{lesser}
use Rattle.geometry.specs.Meaning.Circle.{corner_below, corner_above}
use Rattle.cells.specs.declared.Cell.{Cell}
use Rattle.cells.specs.Meaning.CellRule.{cell_at}
use Rattle.cells.specs.Meaning.Size.{SizeInDomain}
use Rattle.cells.specs.Meaning.Key.{upward, key_of}
use Rattle.cells.specs.Inner.Key.{column_of, line_of}
use Rattle.cells.specs.Inner.Edge.{edge}
use Rattle.storage.specs.Meaning.Packed.{first, second}
use Rattle.point_records.specs.Inner.Listed.{spot_at}
use Rattle.point_search.specs.Inner.Fill.{Stocked}
use Rattle.point_rings.specs.declared.Best.{Best}
use Rattle.point_rings.specs.declared.Walked.{Walked}
use Rattle.point_rings.specs.Inner.Look.{best_of, every, window_places}

-- after so many rings the rest of the range is looked at in one pass
abbrev pub most_rings : ℕ
most_rings = 8

-- ---- the ring of a cell round a middle one: the larger of its distances in columns and in rows
abbrev pub apart : ℕ → ℕ → ℕ
apart m n = m - n + (n - m)

abbrev pub ring_of : Cell → Cell → ℕ
ring_of mid c = max (apart (upward mid.x) (upward c.x)) (apart (upward mid.y) (upward c.y))

-- the same by the key of a cell
abbrev pub ring_of_key : Cell → ℕ → ℕ
ring_of_key mid key = max (apart (upward mid.x) (column_of key)) (apart (upward mid.y) (line_of key))

-- an entry that stands in a ring below d
abbrev pub within : Cell → List (List ℕ) → ℕ → ℕ → Bool
within mid pool d j = ltb (ring_of_key mid (first pool j)) d

-- the last ring of the range from a to b
abbrev pub last_ring : Cell → Cell → Cell → ℕ
last_ring mid a b = max (ring_of mid a) (ring_of mid b)

-- ---- the gap before ring d: how far the centre is from the nearest edge behind which that ring lies. On one axis: k is the cell of the coordinate x
abbrev pub axis_gap : ℕ → ℤ → Float → ℕ → Float
axis_gap size k x d = lesser (sub binary32 (edge size (k +ℤ pos d)) x) (sub binary32 x (edge size (k -ℤ pos d +ℤ pos 1)))

unfoldable pub gap_of : ℕ → Position → ℕ → Float
gap_of size c d = let mid = cell_at size c in lesser (axis_gap size mid.x c.x d) (axis_gap size mid.y c.y d)

-- ---- nothing at this squared distance or farther can be better: the best is strictly nearer; or there is none, and the circle does not reach it
abbrev pub settled : Best → Float → Bool
settled b far = pick (is_some b.place) (lt b.distance far) (le b.distance far)

-- before ring d, `last` being the last ring of the range, and b the best of the rings below d
abbrev pub stops_by : ℕ → Position → ℕ → ℕ → Best → Bool
stops_by size c last d b = let g = gap_of size c d in ltb last d || settled b (mul binary32 g g)

-- before ring d: the range of the circle ends before it, or what the rings below d have is not bettered behind the gap
abbrev pub stops_at : ℕ → Position → Float → List (List ℕ) → List (List Float) → ℕ → ℕ → Bool
stops_at size c r pool spots used d =
    let mid = cell_at size c in
    stops_by size c (last_ring mid (cell_at size (corner_below c r)) (cell_at size (corner_above c r))) d (best_of c r pool spots used (within mid pool d))

-- ---- the windows of ring d round column x and line y: its lowest row, its two columns between, its highest row
abbrev pub key_at : ℕ → ℕ → ℕ
key_at x y = y * 4294967296 + x

unfoldable pub ring_places : ℕ → ℕ → ℕ → List (List ℕ) → ℕ → List ℕ
ring_places x y d pool used =
    window_places (key_at (x - d) (y - d)) (key_at (x + d) (y - d)) pool used
    ++ (window_places (key_at (x - d) (y - d + 1)) (key_at (x - d) (y + d - 1)) pool used
    ++ (window_places (key_at (x + d) (y - d + 1)) (key_at (x + d) (y + d - 1)) pool used
    ++ window_places (key_at (x - d) (y + d)) (key_at (x + d) (y + d)) pool used))

-- the first of n numbers from d on at which a test passes, or the one behind them
abbrev pub first_from : (ℕ → Bool) → ℕ → ℕ → ℕ
first_from test d zero = d
first_from test d (suc n) = pick (test d) d (first_from test (suc d) n)

-- how many rings are looked at: ring 0, and those before the first at which the rule stops; or the fixed number
unfoldable pub rings_of : ℕ → Position → Float → List (List ℕ) → List (List Float) → ℕ → ℕ
rings_of size c r pool spots used = first_from (stops_at size c r pool spots used) 1 (most_rings - 1)

-- ---- what looking ring by ring asks for: sorted columns; a centre and a radius of the domain; each entry in the list of its cell, each slot once
pub record Walkable (size : ℕ) (c : Position) (r : Float) (pool : List (List ℕ)) (spots : List (List Float)) (used : ℕ) : Type 0 where
  pub stocked : Stocked pool spots used
  pub sized : SizeInDomain size
  pub centred : T (position_in_domain c)
  pub round : T (radius_in_domain r)
  pub few : (j : ℕ) → j < used → second pool j < most_slots
  pub once : (i j : ℕ) → i < used → j < used → second pool i ≡ second pool j → i ≡ j
  pub placed : (j : ℕ) → j < used → T (position_in_domain (spot_at spots j))
  pub listed : (j : ℕ) → j < used → first pool j ≡ key_of (cell_at size (spot_at spots j))

-- what it comes to: the best of all entries, and how many rings were looked at
pub record Walks (size : ℕ) (c : Position) (r : Float) (pool : List (List ℕ)) (spots : List (List Float)) (used : ℕ) (w : Walked) : Type 0 where
  pub best : w.best ≡ best_of c r pool spots used every
  pub rings : w.rings ≡ rings_of size c r pool spots used
