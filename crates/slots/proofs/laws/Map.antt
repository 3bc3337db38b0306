-- The slot map: 64 slots to a word, a bit set for each usable slot. Three head words, the grid's own, stand before the bits.
-- Assumes nothing.
-- Here: the laws.
use Rattle.basics.specs.Words.{ℕ, zero, suc, ◌+◌, List, get_or}
use lib.Count.{ones}
use Rattle.slots.specs.Meaning.Map.{head}

-- how many bits of the first w words are set
unfoldable pub ones_of : List ℕ → ℕ → ℕ
ones_of m zero = 0
ones_of m (suc w) = ones_of m w + ones (get_or m (head + w) 0)
