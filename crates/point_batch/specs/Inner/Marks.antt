-- The marks of many deferred calls, by one walk over the pool beside the cell table. Assumes nothing.
use Rattle.std.specs.Prelude.{◌<◌, ◌≤◌, ◌≡◌, ◌∷◌, ◌⊎◌}
use Rattle.basics.specs.Words.{ℕ, List, [], length, get_or}
use Rattle.storage.specs.Meaning.Packed.{first, second, Packed}
use Rattle.point_records.specs.Meaning.Word.{tag_at}

-- what the walk needs of the tables
pub record Walkable (nums pool : List (List ℕ)) (used : ℕ) (cells : List (List ℕ)) (rows : ℕ) : Type 0 where
  pub packed : Packed used rows pool cells
  pub of_pool : used ≤ length pool
  pub of_cells : rows ≤ length cells
  pub inside : (j : ℕ) → j < used → second pool j < length nums

module _ (nums pool : List (List ℕ)) (used : ℕ) (cells : List (List ℕ)) (rows : ℕ) where
  -- the row r after the walk: it was set, for an entry of its cell whose slot has something pending
  pub record SetRow (after : List (List ℕ)) (r : ℕ) : Type 0 where
    pub entry : ℕ
    pub in_use : entry < used
    pub in_rows : r < rows
    pub key : first pool entry ≡ first cells r
    pub pending : tag_at nums (second pool entry) ≡ 0 → ⊥
    pub two : length (get_or cells r []) ≡ 2
    pub now : get_or after r [] ≡ first cells r ∷ 1 ∷ []

  -- the walk up to entry j
  pub record MarkedTo (after : List (List ℕ)) (j : ℕ) : Type 0 where
    pub long : length after ≡ length cells
    pub each : (r : ℕ) → (get_or after r [] ≡ get_or cells r []) ⊎ SetRow after r
    pub done : (k : ℕ) → k < j → (tag_at nums (second pool k) ≡ 0 → ⊥) → (r : ℕ) → r < rows → first cells r ≡ first pool k → get_or after r [] ≡ first cells r ∷ 1 ∷ []
