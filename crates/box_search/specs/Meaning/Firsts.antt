-- Each number of a list once, at its first place. Assumes nothing.
use Rattle.std.specs.Prelude.{◌∷◌}
use Rattle.basics.specs.Words.{ℕ, Bool, not, List, [], eqb}
use Rattle.storage.specs.Meaning.Keyed.{filter}

abbrev pub is_other : ℕ → ℕ → Bool
is_other x y = not (eqb y x)

unfoldable pub firsts : List ℕ → List ℕ
firsts [] = []
firsts (x ∷ l) = x ∷ filter (is_other x) (firsts l)
