-- Lists of elements that have a key: those of one key are a cell's list. Assumes nothing.
-- Here: what only inner contracts cite.
use Rattle.std.specs.Prelude.{◌≤◌, ◌∷◌}
use Rattle.basics.specs.Words.{ℕ, List, []}
use Rattle.storage.specs.Meaning.Keyed.{All}

module _ {A : Type 0} (key : A → ℕ) where
  -- in the order of the keys
  abbrev pub Sorted : List A → Type 0
  Sorted [] = Unit {0}
  Sorted (x ∷ l) = All (λ y. key x ≤ key y) l × Sorted l
