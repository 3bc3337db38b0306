-- The squared distance; the circle of `query_around`: the test, that the squared distance is below the squared radius, and the corners of the searched range.
-- Each operation is rounded once. Assumes nothing.
use Rattle.basics.specs.Words.{Bool}
use Rattle.std.specs.Prelude.{Float}
use Rattle.std.specs.Float.{binary32}
use Rattle.std.specs.Float.Ieee.{lt, add, sub, mul}
use Rattle.geometry.specs.declared.Position.{Position}

unfoldable pub distance_squared : Position → Position → Float
distance_squared p centre =
    let dx = sub binary32 p.x centre.x in
    let dy = sub binary32 p.y centre.y in
    add binary32 (mul binary32 dx dx) (mul binary32 dy dy)

unfoldable pub in_circle : Position → Position → Float → Bool
in_circle p centre r = lt (distance_squared p centre) (mul binary32 r r)

-- x - r, y - r and x + r, y + r: they may leave the domain
abbrev pub corner_below : Position → Float → Position
corner_below centre r = record { x = sub binary32 centre.x r; y = sub binary32 centre.y r }

abbrev pub corner_above : Position → Float → Position
corner_above centre r = record { x = add binary32 centre.x r; y = add binary32 centre.y r }
