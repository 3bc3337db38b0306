-- What the bytes of a field read as, digit by digit. Assumes nothing.
use Rattle.std.specs.Prelude.{◌+◌, ◌-◌, ◌*◌, ◌&&◌, ◌∷◌, Option, Some, None}
use Rattle.basics.specs.Words.{ℕ, zero, suc, Bool, List, [], leb, eqb, ℤ, pos, negsuc}
use Rattle.basics.specs.Meaning.Refusals.{pick}

abbrev pub is_digit : ℕ → Bool
is_digit c = leb 48 c && leb c 57

-- the number with one more digit
abbrev pub more : ℕ → ℕ → ℕ
more v c = v * 10 + (c - 48)

-- the digits so far are worth v; none may take the number past `most`
unfoldable pub digits_from : ℕ → ℕ → List ℕ → Option ℕ
digits_from most v [] = Some v
digits_from most v (c ∷ l) = pick (is_digit c && leb (more v c) most) (digits_from most (more v c) l) None

-- a number up to `most`: one digit at least, and the first of several is no 0
unfoldable pub up_to : ℕ → List ℕ → Option ℕ
unfolding digits_from
up_to most [] = None
up_to most (c ∷ []) = digits_from most 0 (c ∷ [])
up_to most (c ∷ d ∷ l) = pick (eqb c 48) None (digits_from most 0 (c ∷ d ∷ l))

abbrev pub largest : ℕ
largest = 4294967295

unfoldable pub number_of : List ℕ → Option ℕ
unfolding up_to
number_of l = up_to largest l

-- counts of sixteenths go from -1,048,576 to 1,048,576
abbrev pub farthest : ℕ
farthest = 1048576

-- without and with a minus, which 0 has not
abbrev pub plain : Option ℕ → Option ℤ
plain (Some n) = Some (pos n)
plain None = None

abbrev pub negative : Option ℕ → Option ℤ
negative (Some zero) = None
negative (Some (suc n)) = Some (negsuc n)
negative None = None

unfoldable pub count_of : List ℕ → Option ℤ
unfolding up_to
count_of [] = None
count_of (c ∷ l) = pick (eqb c 45) (negative (up_to farthest l)) (plain (up_to farthest (c ∷ l)))
