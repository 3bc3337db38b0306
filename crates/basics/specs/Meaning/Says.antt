-- A bool that says whether a fact holds, and facts that can be decided. Assumes nothing.
use Rattle.std.specs.Prelude.{◌≡◌, ◌⊎◌}
use Rattle.basics.specs.Words.{Bool, true, false, inl, inr}

-- r is true exactly when P holds
pub record Says (r : Bool) (P : Type 0) : Type 0 where
  pub yes : r ≡ true → P
  pub no : P → r ≡ true

-- ---- facts that hold or do not
abbrev pub Decided : Type 0 → Type 0
Decided P = P ⊎ (P → ⊥)

abbrev pub said : {P : Type 0} → Decided P → Bool
said (inl p) = true
said (inr h) = false
