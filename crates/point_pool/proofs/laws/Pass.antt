-- What the pass over the pool and the cell table asks of each entry, of a run of them, and of all of them. Assumes nothing.
-- Here: the laws.
use Rattle.basics.specs.Words.{ℕ, ◌+◌, ◌-◌, ◌<◌, ◌≤◌, ◌≡◌, List, ℤ}
use lib.Ieee.{Float}
use Rattle.storage.specs.Meaning.Packed.{first, second}
use Rattle.point_records.specs.Inner.Listed.{listed_at}
use Rattle.point_pool.specs.Inner.Pass.{Fits, Marked, Whole}

-- c rows of the cell table are met; with an entry of this key m are: the same, if the last one has the key, or one more, that has it
pub data Step (cells : List (List ℕ)) (rows c key m : ℕ) : Type 0 where
  stays : m ≡ c → 0 < c → first cells (c - 1) ≡ key → Step cells rows c key m
  steps : m ≡ c + 1 → (0 < c → first cells (c - 1) < key) → c < rows → first cells c ≡ key → second cells c ≤ 1 → Step cells rows c key m

module _ (nums : List (List ℕ)) (reals : List (List Float)) (ints : List (List ℤ)) (pool : List (List ℕ)) (spots : List (List Float)) (cells : List (List ℕ)) (size : ℕ) where
  -- entry j is right, and with it m rows of the cell table are met
  pub record Turn (rows j c m : ℕ) : Type 0 where
    pub fits : Fits nums reals ints (first pool j) (listed_at pool spots j)
    pub whole : Whole nums reals ints size (second pool j)
    pub step : Step cells rows c (first pool j) m
    pub marked : Marked nums cells (second pool j) (m - 1)
