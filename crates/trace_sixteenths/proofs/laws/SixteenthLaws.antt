-- A count of sixteenths up to 2 ^ 20 is a binary32 number exactly, and the count comes back from it. Assumes nothing.
use Rattle.basics.specs.Words.{ℕ, ◌+◌, ◌*◌, ◌^◌, ◌≤◌, ◌<◌, ◌≡◌, refl, sym, ap, ◌∙◌, subst, Bool, true, false, T, lt→ltb, lit<, lit≤, le→leb, ℤ, pos, negsuc}
use Rattle.basics.specs.Words.{nat_abs, mul_assoc, mul_comm, mul-one, lt_of_lt_of_le, arith}
use lib.Pow.{pow-add, pow_mono, shl_lt}
use lib.Ieee.{Float, nan, inf, fin, binary32, up, down, unlike, round, div, mul, of_int, in_float, to_signed}
use lib.Ieee.Fits.{down_pos}
use lib.Ieee.Exact.{HasValue, round_exact}
use lib.Ieee.Scale.{round_same}
use lib.Ieee.Back.{round_whole, positive_back, negative_back}
use Rattle.trace_sixteenths.specs.Meaning.Sixteenth.{below_zero, sixteenth, sixteenths_of}

abbrev sixteen : Float
sixteen = fin false 1 (pos 4)

-- ---- n / 16 with a sign
module _ (s : Bool) (n : ℕ) (h : n ≤ 1048576) where
  small : n < 2 ^ 24
  small = omega arith

  scaled : n * 2 ^ 149 ≡ n * 2 ^ 145 * 16
  scaled = ap (λ (x : ℕ). n * x) (pow-add 2 145 4) ∙ sym (mul_assoc n (2 ^ 145) 16)

  exact : HasValue (round binary32 s n 16) s n 16
  exact = round_exact binary32 s n 16 n 145 (lit< tt) small (lt_of_lt_of_le (shl_lt 24 145 small) (pow_mono {i = 24 + 145} {j = 149 + 128} (lit≤ tt))) scaled

same_sign : (t s : Bool) → t ≡ s → unlike t false ≡ s
same_sign true s e = e
same_sign false s e = e

-- ---- there: the whole number divided
divided : (s : Bool) (n : ℕ) (x : Float) → HasValue x s n 1 → div binary32 x sixteen ≡ round binary32 s n 16
unfolding div
divided s n nan v = absurd v
divided s n (inf t) v = absurd v
divided s n (fin t m e) v =
    let w : 0 < down e = down_pos e in
    ap (λ (b : Bool). round binary32 b (m * up e * 1) (16 * down e)) (same_sign t s v.0)
    ∙ round_same binary32 s (m * up e * 1) (16 * down e) n 16 (omega arith) (lit< tt)
    (ap (λ (x : ℕ). x * 16) v.1 ∙ mul_assoc n (down e) 16 ∙ ap (λ (x : ℕ). n * x) (mul_comm (down e) 16))

whole-number : (k : ℤ) → of_int binary32 k ≡ round binary32 (below_zero k) (nat_abs k) 1
unfolding of_int
whole-number (pos n) = refl
whole-number (negsuc n) = refl

whole_value : (k : ℤ) → nat_abs k ≤ 1048576 → HasValue (of_int binary32 k) (below_zero k) (nat_abs k) 1
whole_value k h = subst (λ (x : Float). HasValue x (below_zero k) (nat_abs k) 1) (sym (whole-number k)) (round_whole binary32 (below_zero k) (nat_abs k) (omega arith))

pub from_whole : (k : ℤ) → nat_abs k ≤ 1048576 → div binary32 (of_int binary32 k) sixteen ≡ sixteenth k
unfolding sixteenth
from_whole k h = divided (below_zero k) (nat_abs k) (of_int binary32 k) (whole_value k h)

in_float_lem : (k : ℤ) → nat_abs k ≤ 1048576 → T (in_float binary32 k)
unfolding in_float
in_float_lem (pos n) h = le→leb n (2 ^ 24) (omega arith)
in_float_lem (negsuc n) h = lt→ltb n (2 ^ 24) (omega arith)

-- ---- and back
multiplied : (s : Bool) (n : ℕ) (x : Float) → HasValue x s n 16 → mul binary32 x sixteen ≡ round binary32 s n 1
unfolding mul
multiplied s n nan v = absurd v
multiplied s n (inf t) v = absurd v
multiplied s n (fin t m e) v =
    let w : 0 < down e = down_pos e in
    ap (λ (b : Bool). round binary32 b (m * up e * 16) (down e * 1)) (same_sign t s v.0)
    ∙ round_same binary32 s (m * up e * 16) (down e * 1) n 1 (omega arith) (lit< tt)
    (mul-one (m * up e * 16) ∙ v.1 ∙ ap (λ (x : ℕ). n * x) (sym (mul-one (down e))))

pub sixteenth_value : (k : ℤ) → nat_abs k ≤ 1048576 → HasValue (sixteenth k) (below_zero k) (nat_abs k) 16
unfolding sixteenth
sixteenth_value k h = exact (below_zero k) (nat_abs k) h

back_whole : (k : ℤ) → nat_abs k ≤ 1048576 → mul binary32 (sixteenth k) sixteen ≡ of_int binary32 k
back_whole k h = multiplied (below_zero k) (nat_abs k) (sixteenth k) (sixteenth_value k h) ∙ sym (whole-number k)

signed_back : (k : ℤ) → nat_abs k ≤ 1048576 → to_signed 31 (of_int binary32 k) ≡ k
signed_back (pos n) h = (positive_back binary32 31 n (in_float_lem (pos n) h) (omega arith)).1
signed_back (negsuc n) h = (negative_back binary32 31 n (in_float_lem (negsuc n) h) (omega arith)).1

pub count-back : (k : ℤ) → nat_abs k ≤ 1048576 → sixteenths_of (sixteenth k) ≡ k
unfolding sixteenths_of
count-back k h = ap (to_signed 31) (back_whole k h) ∙ signed_back k h
