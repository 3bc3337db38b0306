-- The domain: coordinates are binary32 numbers, finite with magnitude at most 2 ^ 20, which is 1,048,576; a radius is from 0 to that; no box is reversed.
-- NaN and the infinities fail the comparisons here, and -0.0 counts as 0. Assumes nothing.
use Rattle.std.specs.Prelude.{◌&&◌, Float}
use Rattle.basics.specs.Words.{ℕ, Bool, true, false, pos}
use Rattle.std.specs.Float.{fin, binary32}
use Rattle.std.specs.Float.Ieee.{le, fits}
use Rattle.geometry.specs.declared.Position.{Position}
use Rattle.geometry.specs.declared.Aabb.{Aabb}

-- from -2 ^ j to 2 ^ j
abbrev pub within : ℕ → Float → Bool
within j x = le (fin true 1 (pos j)) x && le x (fin false 1 (pos j))

-- the one place that says how far coordinates and radii go: 2 ^ 20
abbrev pub reach : ℕ
reach = 20

abbrev pub in_domain : Float → Bool
in_domain x = fits binary32 x && within reach x

abbrev pub position_in_domain : Position → Bool
position_in_domain p = in_domain p.x && in_domain p.y

abbrev pub radius_in_domain : Float → Bool
radius_in_domain r = fits binary32 r && (le (fin false 0 (pos 0)) r && le r (fin false 1 (pos reach)))

-- both corners are in the domain, and neither axis is reversed
abbrev pub aabb_in_domain : Aabb → Bool
aabb_in_domain b = (position_in_domain b.ll && position_in_domain b.ur) && (le b.ll.x b.ur.x && le b.ll.y b.ur.y)
