-- Document 01's cases C1 to C5 and its box that passes by rounding, with a miss beside each hit and the edges of the domain.
-- Numbers are bit patterns. Assumes nothing.
use Rattle.basics.specs.Words.{ℕ, Bool, true, false, beq, List, [], ◌∷◌}
use lib.Ieee.{binary32, of_bits, lt, le, eq, add, sub, mul, neg}
use Rattle.geometry.specs.declared.Position.{Position}
use Rattle.geometry.specs.declared.Aabb.{Aabb}
use Rattle.geometry.specs.Meaning.Domain.{in_domain, radius_in_domain}
use Rattle.geometry.specs.Meaning.Circle.{distance_squared, in_circle}
use Rattle.geometry.specs.Meaning.Rectangle.{lower_corner, upper_corner, in_rectangle}
use Rattle.geometry.specs.Meaning.Intersects.{overlaps, intersects}

pub record Point : Type 0 where
  pub x : ℕ
  pub y : ℕ

abbrev pub at : ℕ → ℕ → Point
at x y = record { x = x; y = y }

-- a question, and its answer
pub data Row : Type 0 where
  coordinate : ℕ → Bool → Row
  radius : ℕ → Bool → Row
  -- the point, the centre and the radius
  circle : Point → Point → ℕ → Bool → Row
  -- two opposite corners, in any order, and the point
  rectangle : Point → Point → Point → Bool → Row
  -- lower left and upper right of the query box, then of the other
  boxes : Point → Point → Point → Point → Bool → Row

abbrev position : Point → Position
position p = record { x = of_bits binary32 p.x; y = of_bits binary32 p.y }

abbrev box : Point → Point → Aabb
box a b = record { ll = position a; ur = position b }

unfoldable pub right : Row → Bool
unfolding of_bits lt le eq add sub mul neg distance_squared in_circle overlaps intersects
right (coordinate x w) = beq (in_domain (of_bits binary32 x)) w
right (radius x w) = beq (radius_in_domain (of_bits binary32 x)) w
right (circle p c r w) = beq (in_circle (position p) (position c) (of_bits binary32 r)) w
right (rectangle a b p w) = beq (in_rectangle (position p) (lower_corner (position a) (position b)) (upper_corner (position a) (position b))) w
right (boxes a b c d w) = beq (intersects (box a b) (box c d)) w

unfoldable pub table : List Row
table =
    -- C1: (3, 4) from (0, 0) with radius 5
    circle (at 0x40400000 0x40800000) (at 0x00000000 0x00000000) 0x40a00000 false
    -- C2: (3, 3.5), the same circle
    ∷ circle (at 0x40400000 0x40600000) (at 0x00000000 0x00000000) 0x40a00000 true
    -- C3: radius 0 on the point itself
    ∷ circle (at 0x40400000 0x40800000) (at 0x40400000 0x40800000) 0x00000000 false
    -- C4: the rectangle (1, 1) to (0, 0) holds (1, 0), and not the next number after 1
    ∷ rectangle (at 0x3f800000 0x3f800000) (at 0x00000000 0x00000000) (at 0x3f800000 0x00000000) true
    ∷ rectangle (at 0x3f800000 0x3f800000) (at 0x00000000 0x00000000) (at 0x3f800001 0x00000000) false
    -- C5: (0, 0)-(10, 10) meets (10, 0)-(20, 5), and not (11, 0)-(20, 5)
    ∷ boxes (at 0x00000000 0x00000000) (at 0x41200000 0x41200000) (at 0x41200000 0x00000000) (at 0x41a00000 0x40a00000) true
    ∷ boxes (at 0x00000000 0x00000000) (at 0x41200000 0x41200000) (at 0x41300000 0x00000000) (at 0x41a00000 0x40a00000) false
    -- query x from 1 to 3, stored x from 0 to 1 - 2 ^ -24: it passes by rounding
    ∷ boxes (at 0x3f800000 0x00000000) (at 0x40400000 0x00000000) (at 0x00000000 0x00000000) (at 0x3f7fffff 0x00000000) true
    -- 2 ^ 20 is in the domain; the next number after it, an infinity and a NaN are not
    ∷ coordinate 0x49800000 true
    ∷ coordinate 0xc9800000 true
    ∷ coordinate 0x49800001 false
    ∷ coordinate 0xc9800001 false
    ∷ coordinate 0x7f800000 false
    ∷ coordinate 0x7fc00000 false
    -- a radius may be -0.0, and not the next number below it
    ∷ radius 0x80000000 true
    ∷ radius 0x80000001 false
    ∷ radius 0x49800000 true
    ∷ radius 0x49800001 false
    ∷ []
