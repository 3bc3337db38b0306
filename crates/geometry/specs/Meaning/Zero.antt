-- The position and the box that stand in an answer which has none to give: each number is +0.0. Assumes nothing.
use Rattle.basics.specs.Words.{false, pos}
use Rattle.std.specs.Float.{fin}
use Rattle.geometry.specs.declared.Position.{Position}
use Rattle.geometry.specs.declared.Aabb.{Aabb}

abbrev pub zero-position : Position
zero-position = record { x = fin false 0 (pos 0); y = fin false 0 (pos 0) }

abbrev pub zero-aabb : Aabb
zero-aabb = record { ll = zero-position; ur = zero-position }
