-- The live slots, ascending, and their handles. Assumes nothing.
use Rattle.std.specs.Prelude.{◌∷◌}
use Rattle.basics.specs.Words.{ℕ, suc, Bool, List, [], map, get_or, eqb}
use Rattle.basics.specs.Meaning.Refusals.{pick}
use Rattle.slots.specs.Meaning.Slot.{live, version_at}

abbrev pub row_live : List ℕ → Bool
row_live row = eqb (get_or row 1 0) live

-- the data of a slot
abbrev pub obj_at : List (List ℕ) → ℕ → ℕ
obj_at nums s = get_or (get_or nums s []) 2 0

-- the live slots among the rows, the first of which is that of slot s, ascending
abbrev pub live_from : ℕ → List (List ℕ) → List ℕ
live_from s [] = []
live_from s (row ∷ rows) = pick (row_live row) (s ∷ live_from (suc s) rows) (live_from (suc s) rows)

-- the handle of a slot as a row (slot, version), and those of the live slots
abbrev pub handle_at : List (List ℕ) → ℕ → List ℕ
handle_at nums s = s ∷ version_at nums s ∷ []

abbrev pub handles_in : List (List ℕ) → List (List ℕ)
handles_in nums = map (handle_at nums) (live_from 0 nums)
