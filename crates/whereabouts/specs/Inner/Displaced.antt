-- The points that a row of deferred calls has displaced, told by the calls and their replies: what the next maintain counts first.
-- Assumes nothing.
-- Here: what only a further theorem cites.
use Rattle.std.specs.Prelude.{◌+◌, ◌&&◌}
use Rattle.basics.specs.Words.{ℕ, zero, suc, Bool, not, List}
use Rattle.basics.specs.Meaning.Refusals.{pick}
use Rattle.slots.specs.declared.Handle.{Handle}
use Rattle.slots.specs.Meaning.Slot.{version_at, good}
use Rattle.point_tables.specs.Meaning.Tables.{Tables, record_on}
use Rattle.point_deferred.specs.Meaning.Calls.{Call, replies}
use Rattle.point_maintain.specs.Meaning.Moved.{differs}
use Rattle.whereabouts.specs.Meaning.Whereabouts.{removed_by, last_at}

-- the point of a handle was live before and is not removed, and its last accepted position is another than the recorded one, by numbers
abbrev pub displaced : Tables → List Call → Handle → Bool
displaced t cs g =
    let was = (record_on t g.slot).position in
    good t.nums g.slot g.version && (not (removed_by g cs (replies t cs)) && differs (last_at g cs (replies t cs) was) was)

-- how many there are below slot n, by the handles that the slots have
abbrev pub count_displaced : Tables → List Call → ℕ → ℕ
count_displaced t cs zero = 0
count_displaced t cs (suc n) = count_displaced t cs n + pick (displaced t cs (record { slot = n; version = version_at t.nums n })) 1 0
