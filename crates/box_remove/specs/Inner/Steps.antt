-- What the steps of the code are asked for and give. Assumes nothing.
-- Here: what only inner contracts cite.
use Rattle.std.specs.Prelude.{◌<◌, ◌≡◌}
use Rattle.basics.specs.Words.{ℕ}
use Rattle.slots.specs.Meaning.Slot.{live, phase_at}
use Rattle.box_tables.specs.Meaning.Tables.{Tables, slots_of}
use Rattle.box_tables.specs.Meaning.Holds.{Holds}

-- slot s has an object, in tables that hold a grid
pub record Object (t : Tables) (s : ℕ) : Type 0 where
  pub held : Holds t
  pub inside : s < slots_of t
  pub occupied : phase_at t.nums s ≡ live
