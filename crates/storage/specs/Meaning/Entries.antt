-- What the pool holds. A row is a cell key and a number that says which object; a point's entry has a position beside its row.
-- Assumes nothing.
use Rattle.std.specs.Prelude.{◌∷◌, Float}
use Rattle.basics.specs.Words.{ℕ, Bool, List, [], get_or, take, eqb}

abbrev pub row_key : List ℕ → ℕ
row_key r = get_or r 0 0

-- the object of a row: for points its slot
abbrev pub row_item : List ℕ → ℕ
row_item r = get_or r 1 0

abbrev pub is_item : ℕ → List ℕ → Bool
is_item i r = eqb (row_item r) i

-- ---- entries of points: the rows stand in one column, the positions in another
pub record Entry : Type 0 where
  pub row : List ℕ
  pub spot : List Float

abbrev pub entry : List ℕ → List Float → Entry
entry r s = record { row = r; spot = s }

abbrev pub row_of : Entry → List ℕ
row_of e = e.row

abbrev pub spot_of : Entry → List Float
spot_of e = e.spot

abbrev pub entry_key : Entry → ℕ
entry_key e = row_key e.row

-- two columns as one list
abbrev pub zipped : List (List ℕ) → List (List Float) → List Entry
zipped [] spots = []
zipped (r ∷ rows) [] = []
zipped (r ∷ rows) (s ∷ spots) = entry r s ∷ zipped rows spots

-- the entries in use
abbrev pub entries_of : List (List ℕ) → List (List Float) → ℕ → List Entry
entries_of pool spots used = zipped (take used pool) (take used spots)
