-- The place of a spot: its counts of sixteenths as binary32 numbers. Assumes nothing.
use Rattle.geometry.specs.declared.Position.{Position}
use Rattle.geometry.specs.declared.Aabb.{Aabb}
use Rattle.trace_sixteenths.specs.Meaning.Sixteenth.{sixteenth}
use Rattle.trace_lines.specs.declared.Spot.{Spot}

abbrev pub place_of : Spot → Position
place_of s = record { x = sixteenth s.x; y = sixteenth s.y }

abbrev pub box_of : Spot → Spot → Aabb
box_of ll ur = record { ll = place_of ll; ur = place_of ur }
