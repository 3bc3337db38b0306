-- The records of an input: it is cut at each CR LF, from left to right. The last record may lack the ending, and nothing after a last CR LF
-- is no record. Assumes nothing.
-- Here: what only inner contracts cite.
use Rattle.std.specs.Prelude.{◌&&◌, ◌∷◌}
use Rattle.basics.specs.Words.{ℕ, List, [], eqb}
use Rattle.basics.specs.Meaning.Refusals.{pick}
use Rattle.trace_splits.specs.Meaning.Records.{cr, lf, onto}

unfoldable pub records_of : List ℕ → List (List ℕ)
records_of [] = []
records_of (b ∷ []) = (b ∷ []) ∷ []
records_of (b ∷ c ∷ rest) = pick (eqb b cr && eqb c lf) ([] ∷ records_of rest) (onto b (records_of (c ∷ rest)))
