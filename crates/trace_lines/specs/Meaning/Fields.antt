-- The fields of a record: its bytes are cut at each comma. Assumes nothing.
use Rattle.std.specs.Prelude.{◌∷◌}
use Rattle.basics.specs.Words.{ℕ, List, [], eqb}
use Rattle.basics.specs.Meaning.Refusals.{pick}
use Rattle.trace_splits.specs.Meaning.Records.{onto}

abbrev pub comma : ℕ
comma = 44

unfoldable pub fields_of : List ℕ → List (List ℕ)
fields_of [] = [] ∷ []
fields_of (b ∷ l) = pick (eqb b comma) ([] ∷ fields_of l) (onto b (fields_of l))
