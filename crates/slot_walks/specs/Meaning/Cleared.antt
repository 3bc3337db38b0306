-- Every live slot is emptied: versions rise as with any emptying, and a slot at its last version is retired. Assumes nothing.
use Rattle.std.specs.Prelude.{◌∷◌}
use Rattle.basics.specs.Words.{ℕ, suc, List, [], map, get_or, eqb}
use Rattle.basics.specs.Meaning.Refusals.{pick}
use Rattle.slots.specs.Meaning.Map.{given_back}
use Rattle.slots.specs.Meaning.Slot.{live, last_version, emptied_row}

-- every live row is emptied, and its slot usable again unless it was at its last version
abbrev pub cleared_row : List ℕ → List ℕ
cleared_row row = pick (eqb (get_or row 1 0) live) (emptied_row row) row

abbrev pub cleared_bit : ℕ → List ℕ → List ℕ → List ℕ
cleared_bit s row m = pick (eqb (get_or row 1 0) live) (pick (eqb (get_or row 0 0) last_version) m (given_back m s)) m

abbrev pub cleared_map : ℕ → List (List ℕ) → List ℕ → List ℕ
cleared_map s [] m = m
cleared_map s (row ∷ rows) m = cleared_map (suc s) rows (cleared_bit s row m)

abbrev pub cleared_rows : List (List ℕ) → List (List ℕ)
cleared_rows nums = map cleared_row nums
