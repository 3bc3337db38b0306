-- The rectangle of `query_aabb`: corners sorted on each axis by comparison, edges included. Assumes nothing.
use Rattle.std.specs.Prelude.{◌&&◌, Float}
use Rattle.basics.specs.Words.{Bool}
use Rattle.std.specs.Float.Ieee.{le}
use Rattle.basics.specs.Meaning.Refusals.{pick}
use Rattle.geometry.specs.declared.Position.{Position}

-- the lesser and the greater of two numbers; of equal ones the first
abbrev pub lesser : Float → Float → Float
lesser a b = pick (le a b) a b

abbrev pub greater : Float → Float → Float
greater a b = pick (le b a) a b

abbrev pub lower_corner : Position → Position → Position
lower_corner a b = record { x = lesser a.x b.x; y = lesser a.y b.y }

abbrev pub upper_corner : Position → Position → Position
upper_corner a b = record { x = greater a.x b.x; y = greater a.y b.y }

-- p lies between the corners ll and ur, edges included
abbrev pub in_rectangle : Position → Position → Position → Bool
in_rectangle p ll ur = (le ll.x p.x && le p.x ur.x) && (le ll.y p.y && le p.y ur.y)
