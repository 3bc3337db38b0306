-- The storage as a reader expects it: a finite map from cells to non-empty lists, each with a dirty mark. A cell is named by its key, and
-- the map is the list of its rows in the order of the keys. Assumes nothing.
-- Here: the laws.
use Rattle.basics.specs.Words.{ℕ, Bool, true, false, List, [], ◌∷◌, ◌++◌}
use Rattle.storage.specs.Inner.Store.{Listed}

abbrev pub mark_of : Bool → ℕ
mark_of true = 1
mark_of false = 0

module _ {A : Type 0} where
  -- ---- the two tables of a map: the pool, and the rows (key, mark)
  unfoldable pub pool_of : List (Listed A) → List A
  pool_of [] = []
  pool_of (r ∷ rs) = r.row.entries ++ pool_of rs

  unfoldable pub table_of : List (Listed A) → List (List ℕ)
  table_of [] = []
  table_of (r ∷ rs) = (r.key ∷ mark_of r.row.dirty ∷ []) ∷ table_of rs
