-- The entries in use are as many as the objects. Assumes nothing.
-- Here: what only inner contracts cite.
use Rattle.basics.specs.Words.{ℕ, Bool, eqb}
use Rattle.slots.specs.Meaning.Slot.{live, phase_at}
use Rattle.point_tables.specs.Meaning.Tables.{Tables}

abbrev pub is_live : Tables → ℕ → Bool
is_live t s = eqb (phase_at t.nums s) live
