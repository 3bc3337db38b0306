-- The storage as a reader expects it: a finite map from cells to non-empty lists, each with a dirty mark. A cell is named by its key, and
-- the map is the list of its rows in the order of the keys. Assumes nothing.
-- Here: what only inner contracts cite.
use Rattle.std.specs.Prelude.{◌<◌, ◌∷◌, ◌++◌}
use Rattle.basics.specs.Words.{ℕ, Bool, true, false, List, [], eqb, ltb}
use Rattle.basics.specs.Meaning.Refusals.{pick}
use Rattle.storage.specs.Meaning.Keyed.{All, take_out}

abbrev pub Filled : {A : Type 0} → List A → Type 0
Filled [] = ⊥
Filled (x ∷ l) = Unit {0}

module _ (A : Type 0) where
  -- a cell's list and its mark; a cell that is not in use has the empty row
  pub record Row : Type 0 where
    pub dirty : Bool
    pub entries : List A

  pub record Listed : Type 0 where
    pub key : ℕ
    pub row : Row

module _ {A : Type 0} where
  abbrev pub empty_row : Row A
  empty_row = record { dirty = false; entries = [] }

  -- no cell has two lists, and no list is empty
  abbrev pub WellFormed : List (Listed A) → Type 0
  WellFormed [] = Unit {0}
  WellFormed (r ∷ rs) = Filled r.row.entries × All (λ q. r.key < q.key) rs × WellFormed rs

  -- ---- looking up, and replacing a row: an empty list has no row
  unfoldable pub row_at : List (Listed A) → ℕ → Row A
  row_at [] k = empty_row
  row_at (r ∷ rs) k = pick (eqb r.key k) r.row (row_at rs k)

  abbrev pub in_front : ℕ → Row A → List A → List (Listed A) → List (Listed A)
  in_front k w [] rs = rs
  in_front k w (x ∷ l) rs = record { key = k; row = w } ∷ rs

  unfoldable pub put_row : ℕ → Row A → List (Listed A) → List (Listed A)
  put_row k w [] = in_front k w w.entries []
  put_row k w (r ∷ rs) =
      pick (eqb r.key k) (in_front k w w.entries rs)
      (pick (ltb k r.key) (in_front k w w.entries (r ∷ rs)) (r ∷ put_row k w rs))

  -- ---- the operations on the map
  -- an entry at the end of cell k's list
  unfoldable pub append : ℕ → A → List (Listed A) → List (Listed A)
  append k e s = put_row k (record { dirty = (row_at s k).dirty; entries = (row_at s k).entries ++ (e ∷ []) }) s

  -- the first entry of cell k's list that passes the test is taken out, the last entry moving into the gap
  unfoldable pub remove : ℕ → (A → Bool) → List (Listed A) → List (Listed A)
  remove k test s = put_row k (record { dirty = (row_at s k).dirty; entries = take_out test (row_at s k).entries }) s

  -- cell k is marked dirty
  unfoldable pub mark : ℕ → List (Listed A) → List (Listed A)
  mark k s = put_row k (record { dirty = true; entries = (row_at s k).entries }) s
