-- How many numbers below n pass a test; and that they are as many as the places of a list that names each of them once. Assumes nothing.
-- Here: what only inner contracts cite.
use Rattle.std.specs.Prelude.{◌+◌}
use Rattle.basics.specs.Words.{ℕ, zero, suc, Bool}
use Rattle.basics.specs.Meaning.Refusals.{pick}

abbrev pub one : Bool → ℕ
one b = pick b 1 0

unfoldable pub count_below : (ℕ → Bool) → ℕ → ℕ
count_below test zero = 0
count_below test (suc n) = count_below test n + one (test n)
