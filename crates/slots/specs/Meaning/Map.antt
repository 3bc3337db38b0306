-- The slot map: 64 slots to a word, a bit set for each usable slot. Three head words, the grid's own, stand before the bits.
-- Assumes nothing.
use Rattle.std.specs.Prelude.{◌+◌, ◌/◌, ◌%◌, ◌^◌, Option, None, Some}
use Rattle.basics.specs.Words.{ℕ, zero, suc, Bool, true, false, List, get_or, set, eqb}
use Rattle.std.specs.Int.Bits.{bit_and, bit_or, bit_xor}
use Rattle.basics.specs.Meaning.Refusals.{pick}

-- words before the bits
abbrev pub head : ℕ
head = 3

-- words of 64 bits for n slots
abbrev pub words_for : ℕ → ℕ
words_for n = (n + 63) / 64

-- bit j of a number
abbrev pub bit : ℕ → ℕ → ℕ
bit n j = n / 2 ^ j % 2

-- 1 if the map has slot s as usable, else 0
abbrev pub usable : List ℕ → ℕ → ℕ
usable m s = bit (get_or m (head + s / 64) 0) (s % 64)

-- the map with slot s usable no more, and with it usable again
abbrev pub taken : List ℕ → ℕ → List ℕ
taken m s = set m (head + s / 64) (bit_xor (get_or m (head + s / 64) 0) (bit_and (get_or m (head + s / 64) 0) (2 ^ (s % 64))))

abbrev pub given_back : List ℕ → ℕ → List ℕ
given_back m s = set m (head + s / 64) (bit_or (get_or m (head + s / 64) 0) (2 ^ (s % 64)))

-- the lowest usable one of the k slots from s on
unfoldable pub lowest_from : List ℕ → ℕ → ℕ → Option ℕ
lowest_from m s zero = None
lowest_from m s (suc k) = pick (eqb (usable m s) 1) (Some s) (lowest_from m (suc s) k)

-- the lowest usable slot of n
unfoldable pub lowest_usable : List ℕ → ℕ → Option ℕ
unfolding lowest_from
lowest_usable m n = lowest_from m 0 n

-- whether there is one, and its number, else 0
abbrev pub is_some : Option ℕ → Bool
is_some (Some s) = true
is_some None = false

abbrev pub slot_in : Option ℕ → ℕ
slot_in (Some s) = s
slot_in None = 0
