-- A slot's version and phase, which stand first in its row of numbers, and when a handle is good. Assumes nothing.
-- Here: the laws.
use Rattle.basics.specs.Words.{ℕ, zero, suc, ◌+◌, List, eqb}
use Rattle.basics.specs.Meaning.Refusals.{pick}
use Rattle.slots.specs.Meaning.Slot.{phase_at}

-- how many of the first k slots are in a phase
unfoldable pub in_phase : ℕ → List (List ℕ) → ℕ → ℕ
in_phase p nums zero = 0
in_phase p nums (suc k) = in_phase p nums k + pick (eqb (phase_at nums k) p) 1 0
