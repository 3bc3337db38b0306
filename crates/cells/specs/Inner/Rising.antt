-- Numbers that rise strictly, and those one after the other. Assumes nothing.
-- Here: what only inner contracts cite.
use Rattle.std.specs.Prelude.{◌<◌, ◌∷◌}
use Rattle.basics.specs.Words.{ℕ, List, []}

-- all of them are above k
abbrev pub Above : ℕ → List ℕ → Type 0
Above k [] = Unit {0}
Above k (j ∷ js) = (k < j) × Above k js

abbrev pub Rising : List ℕ → Type 0
Rising [] = Unit {0}
Rising (k ∷ ks) = Above k ks × Rising ks
