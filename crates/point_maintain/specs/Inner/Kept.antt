-- The walk of one list by itself: each entry's fate is given, and no tables change as it goes. Assumes nothing.
-- Here: what only inner contracts cite.
use Rattle.std.specs.Prelude.{◌∷◌, ◌++◌}
use Rattle.basics.specs.Words.{ℕ, zero, suc, List, [], length}
use Rattle.storage.specs.Meaning.Entries.{Entry}
use Rattle.point_maintain.specs.Meaning.Walk.{Fate, staying, rest}

-- what stays of a list, and what is to be relocated; the number is at least the length of the list
unfoldable pub kept_in : (Entry → Fate) → ℕ → List Entry → List Entry
kept_in f zero es = es
kept_in f (suc n) [] = []
kept_in f (suc n) (e ∷ es) = staying (f e) ++ kept_in f n (rest (f e) es)

unfoldable pub kept : (Entry → Fate) → List Entry → List Entry
unfolding kept_in
kept f es = kept_in f (length es) es
