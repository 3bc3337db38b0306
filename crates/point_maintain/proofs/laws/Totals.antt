-- The sum of a measure over a list. Two lists have the same elements, each as often, when every measure sums to the same: so what a list
-- holds is said with no word on its order. Assumes nothing.
use Rattle.basics.specs.Words.{ℕ, ◌+◌, ◌≤◌, List, [], ◌∷◌, eqb}
use Rattle.basics.specs.Inner.Counting.{one}

abbrev pub total : {A : Type 0} → (A → ℕ) → List A → ℕ
total m [] = 0
total m (x ∷ l) = m x + total m l

-- ---- how often a number stands in a list, by the name that each element has
module _ {A : Type 0} (name : A → ℕ) where
  abbrev pub times : ℕ → List A → ℕ
  times i l = total (λ x. one (eqb (name x) i)) l

  -- no two elements of one name
  abbrev pub Alone : List A → Type 0
  Alone l = (i : ℕ) → times i l ≤ 1
