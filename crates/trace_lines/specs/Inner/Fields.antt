-- The fields of a record: its bytes are cut at each comma. Assumes nothing.
-- Here: what only inner contracts cite.
use Rattle.std.specs.Prelude.{◌∷◌, ◌++◌}
use Rattle.basics.specs.Words.{ℕ, List, []}
use Rattle.trace_lines.specs.Meaning.Fields.{comma}

-- the record of some fields
unfoldable pub joined : List (List ℕ) → List ℕ
joined [] = []
joined (f ∷ []) = f
joined (f ∷ g ∷ fs) = f ++ comma ∷ joined (g ∷ fs)
