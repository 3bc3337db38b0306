-- Whether a list is not empty. Assumes nothing.
use Rattle.std.specs.Prelude.{◌∷◌}
use Rattle.basics.specs.Words.{Bool, true, false, List, []}

abbrev pub some : {A : Type 0} → List A → Bool
some [] = false
some (x ∷ l) = true
