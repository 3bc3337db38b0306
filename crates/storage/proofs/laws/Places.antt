-- Places of a whole list, and what moves when an element comes in or goes. Assumes nothing.
use Rattle.basics.specs.Words.{ℕ, suc, List, ◌∷◌, ◌++◌, get_or, set, take, drop}

abbrev pub inserted : {A : Type 0} → List A → ℕ → A → List A
inserted l p v = take p l ++ v ∷ drop p l

abbrev pub removed : {A : Type 0} → List A → ℕ → List A
removed l p = take p l ++ drop (suc p) l

-- the element at j moves to i, and what stands behind j moves one place down
abbrev pub swapped : {A : Type 0} → A → List A → ℕ → ℕ → List A
swapped d l i j = removed (set l i (get_or l j d)) j
