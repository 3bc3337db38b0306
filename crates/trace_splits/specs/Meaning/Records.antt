-- The records of an input: it is cut at each CR LF, from left to right. The last record may lack the ending, and nothing after a last CR LF
-- is no record. Assumes nothing.
use Rattle.std.specs.Prelude.{◌∷◌}
use Rattle.basics.specs.Words.{ℕ, List, []}

abbrev pub cr : ℕ
cr = 13

abbrev pub lf : ℕ
lf = 10

-- a byte in front of the first record
abbrev pub onto : ℕ → List (List ℕ) → List (List ℕ)
onto b [] = (b ∷ []) ∷ []
onto b (r ∷ rs) = (b ∷ r) ∷ rs
