-- The live slots, ascending, and their handles. Assumes nothing.
-- Here: the laws.
use Rattle.basics.specs.Words.{ℕ, Bool, List, eqb}
use Rattle.slots.specs.Meaning.Slot.{live, phase_at}

abbrev pub live_at : List (List ℕ) → ℕ → Bool
live_at nums s = eqb (phase_at nums s) live
