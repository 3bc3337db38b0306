-- What is asked of an object, as a call: its kind, and a position, which a removal does not look at. Assumes nothing.
use Rattle.std.specs.Prelude.{◌≡◌}
use Rattle.std.specs.Float.Ieee.{fin}
use Rattle.basics.specs.Words.{ℕ, false, eqb, pos}
use Rattle.basics.specs.Meaning.Refusals.{pick}
use Rattle.geometry.specs.declared.Position.{Position}
use Rattle.slots.specs.declared.Handle.{Handle}
use Rattle.point_records.specs.Meaning.Occupied.{InDomain}
use Rattle.point_deferred.specs.Meaning.Calls.{Call}
use Rattle.point_deferred.specs.Inner.Held.{call}
use Rattle.point_deferred.specs.declared.Ask.{Ask}
use Rattle.point_deferred.specs.declared.Ask.TheVariants.{SetPosition, Remove}

abbrev pub kind_of : Ask → ℕ
kind_of (SetPosition _) = 0
kind_of Remove = 1

abbrev pub nowhere : Position
nowhere = record { x = fin false 0 (pos 0); y = fin false 0 (pos 0) }

abbrev pub place_of : Ask → Position
place_of (SetPosition at) = at
place_of Remove = nowhere

abbrev pub call_for : Ask → Handle → ℕ → Call
call_for ask h k = call (kind_of ask) h (place_of ask) k

-- a new position is in the domain
abbrev pub Allowed : Ask → Type 0
Allowed ask = kind_of ask ≡ 0 → InDomain (place_of ask)

-- what a batch lends as a number: 0 is a new position, any other a removal
abbrev pub ask_of : ℕ → Position → Ask
ask_of kind at = pick (eqb kind 0) (SetPosition at) Remove
