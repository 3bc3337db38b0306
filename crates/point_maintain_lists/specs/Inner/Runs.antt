-- The entries that stand at places of the pool, one after the other. Assumes nothing.
-- Here: what only inner contracts cite.
use Rattle.std.specs.Prelude.{◌∷◌}
use Rattle.basics.specs.Words.{ℕ, zero, suc, List, []}

module _ {A : Type 0} (at : ℕ → A) where
  -- what stands at the n places from i on
  abbrev pub run : ℕ → ℕ → List A
  run i zero = []
  run i (suc n) = at i ∷ run (suc i) n
