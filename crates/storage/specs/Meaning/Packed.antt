-- When the first `used` rows of the pool and the first `rows` rows of the cell table are a storage: no cell has two lists, each pool
-- entry is in one list or free, and each list has its row. Assumes nothing.
use Rattle.std.specs.Prelude.{◌<◌, ◌≤◌, ◌≡◌}
use Rattle.basics.specs.Words.{ℕ, List, [], get_or}

-- the first and the second number of a row of two
abbrev pub first : List (List ℕ) → ℕ → ℕ
first l i = get_or (get_or l i []) 0 0

abbrev pub second : List (List ℕ) → ℕ → ℕ
second l i = get_or (get_or l i []) 1 0

pub record Packed (used rows : ℕ) (pool cells : List (List ℕ)) : Type 0 where
  -- the entries in use are in the order of the keys, so that the entries of a cell are one run
  pub ordered : (i j : ℕ) → j < used → i ≤ j → first pool i ≤ first pool j
  -- a row for each list, and a list for each row, in the order of the keys; a mark is 0 or 1
  pub ascending : (i j : ℕ) → j < rows → i < j → first cells i < first cells j
  pub has_row : (j : ℕ) → j < used → (r : ℕ) × (r < rows) × (first cells r ≡ first pool j)
  pub has_list : (r : ℕ) → r < rows → (j : ℕ) × (j < used) × (first pool j ≡ first cells r)
  pub marks : (r : ℕ) → r < rows → second cells r ≤ 1
