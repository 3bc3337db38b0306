-- What drawing the map asks for: both grids are whole and have cells of 16, and the circles are not too many and each in the domain. Assumes nothing.
use Rattle.std.specs.Prelude.{◌≤◌, ◌≡◌, Float}
use Rattle.basics.specs.Words.{true, List, length}
use Rattle.point_tables.specs.Meaning.Tables as Points
use Rattle.point_tables.specs.Meaning.Holds as PointsHold
use Rattle.box_tables.specs.Meaning.Tables as Boxes
use Rattle.box_tables.specs.Meaning.Holds as BoxesHold
use Rattle.encoder_blocks.specs.Meaning.Blocks.{side}
use Rattle.encoder_points.specs.Meaning.Points.{most_circles}
use Rattle.encoder.specs.Meaning.FillMap.{every, circle_in_domain}

pub record Drawable (t : Points.Tables) (b : Boxes.Tables) (circles : List (List Float)) : Type 0 where
  pub points : PointsHold.Holds t
  pub points-size : Points.size_of t ≡ side
  pub boxes : BoxesHold.Holds b
  pub boxes-size : Boxes.size_of b ≡ side
  pub few : length circles ≤ most_circles
  pub within_domain : every circle_in_domain circles ≡ true
