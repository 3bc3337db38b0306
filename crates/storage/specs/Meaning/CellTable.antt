-- The table of the cells in use: a row (key, mark) for each, in the order of the keys; the mark is 1 for a dirty cell. Assumes nothing.
use Rattle.std.specs.Prelude.{◌∷◌}
use Rattle.basics.specs.Words.{ℕ, List, [], map, eqb}
use Rattle.basics.specs.Meaning.Refusals.{pick}
use Rattle.storage.specs.Meaning.Keyed.{on_list}
use Rattle.storage.specs.Meaning.Entries.{row_key}

-- a row for cell k, if it had none
abbrev pub row_or : ℕ → List (List ℕ) → List (List ℕ)
row_or k [] = (k ∷ 0 ∷ []) ∷ []
row_or k (r ∷ rs) = r ∷ rs

-- cell k has a row: a new one has no mark
unfoldable pub entered : ℕ → List (List ℕ) → List (List ℕ)
entered k t = on_list row_key k (row_or k) t

-- cell k has no row
unfoldable pub dropped : ℕ → List (List ℕ) → List (List ℕ)
dropped k t = on_list row_key k (λ rs. []) t

-- cell k is marked dirty
unfoldable pub marked : ℕ → List (List ℕ) → List (List ℕ)
marked k t = on_list row_key k (map (λ r. k ∷ 1 ∷ [])) t

-- each key of a sorted list once, in order
abbrev pub keys_from : {A : Type 0} → (A → ℕ) → ℕ → List A → List ℕ
keys_from key k [] = []
keys_from key k (x ∷ l) = pick (eqb (key x) k) (keys_from key k l) (key x ∷ keys_from key (key x) l)

unfoldable pub keys_of : {A : Type 0} → (A → ℕ) → List A → List ℕ
keys_of key [] = []
keys_of key (x ∷ l) = key x ∷ keys_from key (key x) l

-- the table of a pool, with no mark set
unfoldable pub fresh : List (List ℕ) → List (List ℕ)
unfolding keys_of
fresh pool = map (λ k. k ∷ 0 ∷ []) (keys_of row_key pool)
