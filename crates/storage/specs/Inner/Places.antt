-- Places of a list, and what moves when one of the first k elements comes in or goes. Assumes nothing.
--     opened s p k v     v comes in at p, and the elements from p up to k move one place up. What stands past k stays
--     closed s p k       the element at p goes, and those after it up to k move one place down. What stands from k - 1 on stays
-- Here: what only inner contracts cite.
use Rattle.std.specs.Prelude.{◌+◌, ◌-◌, ◌∷◌, ◌++◌}
use Rattle.basics.specs.Words.{ℕ, List, length, take, drop, slice}
use Rattle.storage.specs.Meaning.Keyed.{below, under}

-- the end of the list of key k
abbrev pub end_of : {A : Type 0} → (A → ℕ) → ℕ → List A → ℕ
end_of key k l = length (below key k l ++ under key k l)

abbrev pub opened : {A : Type 0} → List A → ℕ → ℕ → A → List A
opened s p k v = take p s ++ v ∷ (slice p k s ++ drop (k + 1) s)

abbrev pub closed : {A : Type 0} → List A → ℕ → ℕ → List A
closed s p k = take p s ++ (slice (p + 1) k s ++ drop (k - 1) s)
