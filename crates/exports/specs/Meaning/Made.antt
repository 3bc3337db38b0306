-- What the calls take, made of its numbers. Assumes nothing.
use Rattle.basics.specs.Words.{ℕ}
use Rattle.std.specs.Prelude.{Float}
use Rattle.geometry.specs.declared.Position.{Position}
use Rattle.geometry.specs.declared.Aabb.{Aabb}
use Rattle.slots.specs.declared.Handle.{Handle}

abbrev pub handle : ℕ → ℕ → Handle
handle s v = record { slot = s; version = v }

abbrev pub position : Float → Float → Position
position x y = record { x = x; y = y }

abbrev pub aabb : Float → Float → Float → Float → Aabb
aabb left low right high = record { ll = position left low; ur = position right high }
