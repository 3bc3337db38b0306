-- The entries that stand at places of the pool, one after the other. Assumes nothing.
-- Here: the laws.
use Rattle.basics.specs.Words.{ℕ, zero, suc, List, [], ◌∷◌}
use Rattle.point_maintain_lists.specs.Inner.Runs.{run}

module _ {A : Type 0} (at : ℕ → A) where
  -- the same with what stands at p in front, in the place of what stands at i
  abbrev pub run_led_by : ℕ → ℕ → ℕ → List A
  run_led_by p i zero = []
  run_led_by p i (suc n) = at p ∷ run at (suc i) n
