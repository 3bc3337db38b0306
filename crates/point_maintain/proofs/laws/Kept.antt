-- The walk of one list by itself: each entry's fate is given, and no tables change as it goes. Assumes nothing.
-- Here: the laws.
use Rattle.basics.specs.Words.{ℕ, zero, suc, List, [], ◌∷◌, ◌++◌, length}
use Rattle.storage.specs.Meaning.Entries.{Entry}
use Rattle.point_maintain.specs.Meaning.Walk.{Fate, leaving, rest}

-- what a walk takes of each entry by its fate, what stays or what leaves; the number is at least the length of the list
unfoldable pub parts_in : (Fate → List Entry) → (Entry → Fate) → ℕ → List Entry → List Entry
parts_in part f zero es = []
parts_in part f (suc n) [] = []
parts_in part f (suc n) (e ∷ es) = part (f e) ++ parts_in part f n (rest (f e) es)

abbrev pub moving : (Entry → Fate) → List Entry → List Entry
moving f es = parts_in leaving f (length es) es
