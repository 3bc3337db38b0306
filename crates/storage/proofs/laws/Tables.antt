-- The map that two tables stand for, and when a table of rows and a pool are the tables of a map. Assumes nothing.
-- Here: the laws.
use Rattle.basics.specs.Words.{ℕ, ◌≤◌, ◌≡◌, false, List, [], ◌∷◌, map, length, eqb}
use Rattle.storage.specs.Meaning.Keyed.{All, under}
use Rattle.storage.specs.Inner.Keyed.{Sorted}
use Rattle.storage.specs.Meaning.Entries.{row_key, row_item}
use Rattle.storage.specs.Meaning.CellTable.{keys_of}
use Rattle.storage.specs.Inner.Store.{Filled, Row, Listed, empty_row}
use Rattle.storage.proofs.laws.Store.{mark_of}
use Rattle.storage.specs.Inner.Tables.{Rising}

module _ {A : Type 0} where
  -- a row with an empty list is the empty row
  abbrev pub tidy_by : Row A → List A → Row A
  tidy_by w [] = empty_row
  tidy_by w (x ∷ l) = w

  abbrev pub tidy : Row A → Row A
  tidy w = tidy_by w w.entries

  -- what the table of rows has for cell k with the row w
  abbrev pub rows_by : ℕ → Row A → List A → List (List ℕ)
  rows_by k w [] = []
  rows_by k w (x ∷ l) = (k ∷ mark_of w.dirty ∷ []) ∷ []

  abbrev pub rows_for : ℕ → Row A → List (List ℕ)
  rows_for k w = rows_by k w w.entries

  module _ (key : A → ℕ) where
    -- each entry has the key of its row
    abbrev pub Keyed : List (Listed A) → Type 0
    Keyed s = All (λ r. All (λ x. key x ≡ r.key) r.row.entries) s

    -- the map of a table of rows and a pool
    unfoldable pub storage_of : List (List ℕ) → List A → List (Listed A)
    storage_of [] pool = []
    storage_of (r ∷ t) pool =
        record { key = row_key r; row = record { dirty = eqb (row_item r) 1; entries = under key (row_key r) pool } } ∷ storage_of t pool

    -- the table of a pool, with no mark set
    abbrev pub fresh_of : List A → List (List ℕ)
    fresh_of pool = map (λ k. k ∷ 0 ∷ []) (keys_of key pool)

    -- both are in order; each entry has its row, each row its list, and the row is a key and a mark
    pub record Tabled (t : List (List ℕ)) (pool : List A) : Type 0 where
      pub sorted : Sorted key pool
      pub rising : Rising row_key t
      pub has_row : All (λ x. Filled (under row_key (key x) t)) pool
      pub has_list : All (λ r. Filled (under key (row_key r) pool)) t
      pub pairs : All (λ r. length r ≡ 2) t
      pub marks : All (λ r. row_item r ≤ 1) t

  -- the map with no mark set
  unfoldable pub cleared : List (Listed A) → List (Listed A)
  cleared [] = []
  cleared (r ∷ rs) = record { key = r.key; row = record { dirty = false; entries = r.row.entries } } ∷ cleared rs
