-- The decimal text of a number: no plus, no leading zero, no -0. Bytes are ASCII: 48 to 57 are the digits, 45 is the minus. Assumes nothing.
use Rattle.std.specs.Prelude.{◌+◌, ◌/◌, ◌%◌, ◌∷◌, ◌++◌}
use Rattle.basics.specs.Words.{ℕ, zero, suc, List, [], ℤ, pos, negsuc}

-- the digits of n, and none for 0; n has at most `most` of them
unfoldable pub leading : ℕ → ℕ → List ℕ
leading zero n = []
leading (suc most) zero = []
leading (suc most) (suc n) = leading most (suc n / 10) ++ ((48 + suc n % 10) ∷ [])

-- the last digit is always there; a number has fewer digits before it than its value
unfoldable pub decimal : ℕ → List ℕ
unfolding leading
decimal n = leading n (n / 10) ++ ((48 + n % 10) ∷ [])

unfoldable pub signed_text : ℤ → List ℕ
unfolding decimal
signed_text (pos n) = decimal n
signed_text (negsuc n) = 45 ∷ decimal (suc n)
