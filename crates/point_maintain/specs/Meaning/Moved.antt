-- Whether an object has moved: a place is pending for it, and it is another than the recorded one by its numbers, not by its bits. Assumes nothing.
use Rattle.std.specs.Prelude.{◌||◌}
use Rattle.basics.specs.Words.{Bool, false}
use Rattle.std.specs.Float.Ieee.{ne}
use Rattle.geometry.specs.declared.Position.{Position}
use Rattle.point_records.specs.declared.State.{State}
use Rattle.point_records.specs.declared.State.TheVariants.{Unchanged, NewPos, Relocate, Removed}
use Rattle.point_records.specs.declared.Record.{Record}

-- x or y is another number, by the comparison of binary32, for which -0.0 and 0.0 are equal
abbrev pub differs : Position → Position → Bool
differs p q = ne p.x q.x || ne p.y q.y

-- by the state of an object that is recorded at p
abbrev pub moves_from : Position → State → Bool
moves_from p Unchanged = false
moves_from p (NewPos q) = differs q p
moves_from p (Relocate q c) = differs q p
moves_from p Removed = false

abbrev pub has_moved : Record → Bool
has_moved r = moves_from r.position r.state
