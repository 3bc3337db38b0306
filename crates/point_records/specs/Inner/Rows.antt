-- The row of a slot with another tag. Assumes nothing.
-- Here: what only inner contracts cite.
use Rattle.std.specs.Prelude.{◌∷◌}
use Rattle.basics.specs.Words.{ℕ, List, [], get_or}
use Rattle.point_records.specs.Meaning.Word.{word_of, tracker_in}

abbrev pub with_tag : List ℕ → ℕ → List ℕ
with_tag n tag = get_or n 0 0 ∷ get_or n 1 0 ∷ get_or n 2 0 ∷ word_of (tracker_in n) tag ∷ []
