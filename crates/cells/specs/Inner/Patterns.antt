-- The numbers that binary32 holds, by the bit patterns from 0 up: a greater pattern has the greater number, so none lies between the numbers of two
-- patterns one after the other. Numbers are in units of the smallest. Assumes nothing.
-- Here: what only inner contracts cite.
use Rattle.std.specs.Prelude.{◌+◌, ◌*◌, ◌/◌, ◌%◌, ◌^◌, ◌≡◌}
use Rattle.basics.specs.Words.{ℕ, zero, suc}

-- ---- the number of an exponent's field and digits, and of a pattern
abbrev pub fields_of : ℕ → ℕ → ℕ
fields_of zero t = t
fields_of (suc k) t = (8388608 + t) * 2 ^ k

unfoldable pub number_at : ℕ → ℕ
number_at b = fields_of (b / 8388608) (b % 8388608)

-- ---- a number that binary32 holds
abbrev pub Held : ℕ → Type 0
Held w = (b : ℕ) × (w ≡ number_at b)
