-- Where the list of a cell begins in the pool. Assumes nothing.
use Rattle.std.specs.Prelude.{◌-◌, ◌<◌, ◌≡◌}
use Rattle.basics.specs.Words.{ℕ, List}
use Rattle.storage.specs.Meaning.Packed.{first}

-- entry j begins a list
abbrev pub Begins : List (List ℕ) → ℕ → Type 0
Begins pool j = 0 < j → first pool (j - 1) ≡ first pool j → ⊥
