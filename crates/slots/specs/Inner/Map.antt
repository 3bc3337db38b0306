-- The slot map: 64 slots to a word, a bit set for each usable slot. Three head words, the grid's own, stand before the bits.
-- Assumes nothing.
-- Here: what only inner contracts cite.
use Rattle.std.specs.Prelude.{◌+◌, ◌*◌, ◌≤◌, ◌<◌, ◌≡◌}
use Rattle.basics.specs.Words.{ℕ, zero, suc, List}
use Rattle.slots.specs.Meaning.Map.{words_for, usable}

-- how many of the first k slots are usable
unfoldable pub usable_below : List ℕ → ℕ → ℕ
usable_below m zero = 0
usable_below m (suc k) = usable_below m k + usable m k

-- no bit of the map's words past the last of n slots is set
abbrev pub NonePast : List ℕ → ℕ → Type 0
NonePast m n = (s : ℕ) → s < words_for n * 64 → n ≤ s → usable m s ≡ 0
