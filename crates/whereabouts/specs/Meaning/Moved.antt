-- A point that was accepted as moved is found where it was last sent: it is not lost, and not looked for where it was. Assumes nothing.
use Rattle.std.specs.Prelude.{◌≡◌}
use Rattle.basics.specs.Words.{false}
use Rattle.slots.specs.declared.Handle.{Handle}
use Rattle.point_deferred.specs.Meaning.Calls.{Call}
use Rattle.whereabouts.specs.Meaning.Whereabouts.{same_handle}

module _ (g : Handle) where
  -- ---- calls with other handles
  abbrev pub Other : Call → Type 0
  Other c = same_handle c.handle g ≡ false
