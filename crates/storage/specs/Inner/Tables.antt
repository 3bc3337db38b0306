-- The map that two tables stand for, and when a table of rows and a pool are the tables of a map. Assumes nothing.
-- Here: what only inner contracts cite.
use Rattle.std.specs.Prelude.{◌<◌, ◌∷◌}
use Rattle.basics.specs.Words.{ℕ, List, []}
use Rattle.storage.specs.Meaning.Keyed.{All}

-- in the order of the keys, and no key twice
abbrev pub Rising : {A : Type 0} → (A → ℕ) → List A → Type 0
Rising key [] = Unit {0}
Rising key (x ∷ l) = All (λ y. key x < key y) l × Rising key l
