-- The whole part of a binary32, by the fields of its bit pattern. Assumes nothing.
use Rattle.basics.specs.Words.{ℕ, zero, suc, ◌+◌, ◌-◌, ◌*◌, ◌/◌, ◌%◌, ◌^◌, ◌≤◌, ◌<◌, min, ◌≡◌, refl, sym, ap, ◌∙◌, subst, Bool, true, false, not, cond, T, leb}
use Rattle.basics.specs.Words.{ltb, eqb, eqb→eq, lit≤, lit<, ℤ, pos, neg_ℤ, min-eq_left, min-eq_right, min-le_right, le_of_lt, le_trans, le_of_eq}
use Rattle.basics.specs.Words.{lt_of_lt_of_le, mul_assoc, mul_comm, mul_left_comm, mul-le-mul_right, mod-lt, div-eq_of_lt, div-lt_iff_lt-mul, le-div_iff_mul-le}
use Rattle.basics.specs.Words.{add_comm, pow-suc, arith, lt-ltb, le-ltb, ltb-true, ltb-false, lt-leb, le-leb}
use lib.Pow.{pow-add, pow_pos, pow_mono, shl_lt, shl-shr, shr-shr, field}
use lib.Ieee.{Float, nan, inf, fin, binary32, up, down, odd, fits, is_nan, of_fields, of_bits, to_bits, to_signed, ne}
use lib.Ieee.Fits.{down_pos}
use lib.Ieee.Bits.{of_bits-to_bits}
use lib.Ieee.Exact.{HasValue, odd_sign}
use lib.Ieee.Nearest.{div_same}
use lib.Ieee.Compare.{differs_from_itself}
use Rattle.cells.specs.Inner.Cut.{cut_fields, cut_bits}

-- ---- shifts
join : (e : ℕ) → e ≤ 150 → e + (150 - e) ≡ 150
join e h = omega arith

shifted_down : (q e : ℕ) → e ≤ 150 → q / 2 ^ (150 - e) ≡ q * 2 ^ e / 2 ^ 150
shifted_down q e h = ap (λ (k : ℕ). k / 2 ^ (150 - e)) (sym (shl-shr q e)) ∙ shr-shr (q * 2 ^ e) e (150 - e) ∙ ap (λ (k : ℕ). q * 2 ^ e / 2 ^ k) (join e h)

shifted_up : (q e : ℕ) → 150 ≤ e → q * 2 ^ (e - 150) ≡ q * 2 ^ e / 2 ^ 150
shifted_up q e h = sym (ap (λ (k : ℕ). k / 2 ^ 150) (ap (λ (k : ℕ). q * 2 ^ k) (sym (omega arith)) ∙ ap (λ (k : ℕ). q * k) (pow-add 2 (e - 150) 150) ∙ sym (mul_assoc q (2 ^ (e - 150)) (2 ^ 150))) ∙ shl-shr (q * 2 ^ (e - 150)) 150)

with_lead : (t : ℕ) → t < 8388608 → t + 8388608 < 2 ^ 24
with_lead t h = omega arith

room : (e : ℕ) → e ≤ 157 → 24 + (e - 150) ≤ 32
room e h = omega arith

-- ---- what `cut` returns
pub cut_low : (e t : ℕ) → e < 127 → 0 ≡ cut_fields e t
unfolding cut_fields
cut_low e t h = simp (lt-ltb e 127 h)

pub cut_high : (e t : ℕ) → 127 ≤ e → 157 < e → 2147483648 ≡ cut_fields e t
unfolding cut_fields
cut_high e t g h = simp (le-ltb e 127 g, lt-ltb 157 e h)

pub cut_mid : (e t : ℕ) → 127 ≤ e → e ≤ 157 → (t + 8388608) * 2 ^ e / 2 ^ 150 ≡ cut_fields e t
unfolding cut_fields
cut_mid e t g h = simp (le-ltb e 127 g, le-ltb 157 e h)

module _ (e t : ℕ) where
  pub cut_down : 127 ≤ e → e ≤ 157 → e ≤ 150 → (t + 8388608) / 2 ^ (150 - e) ≡ cut_fields e t
  cut_down g h k = shifted_down (t + 8388608) e k ∙ cut_mid e t g h

  pub cut_up : 127 ≤ e → e ≤ 157 → 150 ≤ e → (t + 8388608) * 2 ^ (e - 150) ≡ cut_fields e t
  cut_up g h k = shifted_up (t + 8388608) e k ∙ cut_mid e t g h

  pub scaled_fits : t < 8388608 → e ≤ 157 → (t + 8388608) * 2 ^ (e - 150) < 2 ^ 32
  scaled_fits d h = lt_of_lt_of_le (shl_lt 24 (e - 150) (with_lead t d)) (pow_mono (room e h))

-- ---- `to_signed` of a value
abbrev pub capped : Bool → ℕ → ℤ
capped s n = cond s (neg_ℤ (pos (min n 2147483648))) (pos (min n 2147483647))

val_signed : (x : Float) (s : Bool) (a c : ℕ) → 0 < c → HasValue x s a c → to_signed 31 x ≡ capped s (a / c)
unfolding to_signed
val_signed nan s a c C v = absurd v
val_signed (inf t) s a c C v = absurd v
val_signed (fin t m e) s a c C v = ap (λ (b : Bool). capped b (m * up e / down e)) v.0 ∙ ap (capped s) (div_same (m * up e) (down e) a c (down_pos e) C v.1)

-- ---- the fields
again_at : (q j l : ℕ) → q * 2 ^ suc j / 2 ^ suc l ≡ q * 2 ^ j / 2 ^ l
again_at q j l = div_same (q * 2 ^ suc j) (2 ^ suc l) (q * 2 ^ j) (2 ^ l) (pow_pos (suc l)) (pow_pos l) (simp (pow-suc, mul_assoc, mul_comm, mul_left_comm, mul_left_comm))

again : (q j : ℕ) → q * 2 ^ suc j / 2 ^ 150 ≡ q * 2 ^ j / 2 ^ 149
again q j = again_at q j 149

small : (t j : ℕ) → t < 8388608 → suc j < 127 → (t + 8388608) * 2 ^ j / 2 ^ 149 ≡ 0
small t j d h = div-eq_of_lt (lt_of_lt_of_le (shl_lt 24 j (with_lead t d)) (pow_mono {i = 24 + j} {j = 149} (omega arith)))

large : (t j : ℕ) → 157 < suc j → 2147483648 ≤ (t + 8388608) * 2 ^ j / 2 ^ 149
large t j h =
    (le-div_iff_mul-le (pow_pos 149)).1
    (le_trans (pow_mono {i = 180} {j = 23 + j} (omega arith)) (le_trans (le_of_eq (pow-add 2 23 j)) (mul-le-mul_right (2 ^ j) (omega arith))))

middle : (t j : ℕ) → t < 8388608 → suc j ≤ 157 → (t + 8388608) * 2 ^ j / 2 ^ 149 ≤ 2147483648
middle t j d h = le_of_lt ((div-lt_iff_lt-mul (pow_pos 149)).1 (lt_of_lt_of_le (shl_lt 24 j (with_lead t d)) (pow_mono {i = 24 + j} {j = 180} (omega arith))))

cut_is : (t j : ℕ) → t < 8388608 → cut_fields (suc j) t ≡ min ((t + 8388608) * 2 ^ j / 2 ^ 149) 2147483648
cut_is t j d = go (ltb (suc j) 127) (ltb 157 (suc j)) refl refl
  where
    go : (a b : Bool) → ltb (suc j) 127 ≡ a → ltb 157 (suc j) ≡ b → cut_fields (suc j) t ≡ min ((t + 8388608) * 2 ^ j / 2 ^ 149) 2147483648
    go true b p q = sym (cut_low (suc j) t (ltb-true (suc j) 127 p)) ∙ sym (ap (λ (n : ℕ). min n 2147483648) (small t j d (ltb-true (suc j) 127 p)))
    go false true p q = sym (cut_high (suc j) t (ltb-false (suc j) 127 p) (ltb-true 157 (suc j) q)) ∙ sym (min-eq_right (large t j (ltb-true 157 (suc j) q)))
    go false false p q =
        sym (cut_mid (suc j) t (ltb-false (suc j) 127 p) (ltb-false 157 (suc j) q)) ∙ again (t + 8388608) j
        ∙ sym (min-eq_left (middle t j d (ltb-false 157 (suc j) q)))

-- capping once more changes nothing
recap : (s : Bool) (n k : ℕ) → k ≡ min n 2147483648 → capped s n ≡ capped s k
recap true n k e = let q : min n 2147483648 ≡ min k 2147483648 = omega arith in ap (λ (i : ℕ). neg_ℤ (pos i)) q
recap false n k e = ap pos (omega arith)

infinite : (s : Bool) → to_signed 31 (inf s) ≡ capped s 2147483648
unfolding to_signed
infinite true = refl
infinite false = refl

pub fields : (s : Bool) (e t : ℕ) → t < 8388608 → T (not (is_nan (of_fields binary32 s e t))) → to_signed 31 (of_fields binary32 s e t) ≡ capped s (cut_fields e t)
unfolding of_fields is_nan
fields s zero t d n =
    val_signed (odd 24 s t 0 149) s (t * 2 ^ 0) (2 ^ 149) (pow_pos 149) (odd_sign 24 s t 0 149)
    ∙ ap (capped s) (div-eq_of_lt (lt_of_lt_of_le (shl_lt 23 0 d) (pow_mono {i = 23 + 0} {j = 149} (lit≤ tt))) ∙ cut_low 0 t (lit< tt))
fields s (suc j) t d n = go (eqb (suc j) 255) (eqb t 0) (eqb→eq (suc j) 255) n
  where
    go : (a b : Bool) → (T a → suc j ≡ 255) → T (not (is_nan (cond a (cond b (inf s) nan) (odd 24 s (8388608 + t) j 149)))) → to_signed 31 (cond a (cond b (inf s) nan) (odd 24 s (8388608 + t) j 149)) ≡ capped s (cut_fields (suc j) t)
    go true true e n = infinite s ∙ ap (capped s) (cut_high 255 t (lit≤ tt) (lit< tt) ∙ ap (λ (k : ℕ). cut_fields k t) (sym (e tt)))
    go true false e n = absurd n
    go false b e n =
        val_signed (odd 24 s (8388608 + t) j 149) s ((8388608 + t) * 2 ^ j) (2 ^ 149) (pow_pos 149) (odd_sign 24 s (8388608 + t) j 149)
        ∙ ap (λ (k : ℕ). capped s (k * 2 ^ j / 2 ^ 149)) (add_comm 8388608 t)
        ∙ recap s ((t + 8388608) * 2 ^ j / 2 ^ 149) (cut_fields (suc j) t) (cut_is t j d)

-- ---- the pattern
pub bits : (b : ℕ) → T (not (is_nan (of_bits binary32 b))) → to_signed 31 (of_bits binary32 b) ≡ capped (leb 2147483648 b) (cut_bits b)
unfolding of_bits cut_bits
bits b n = fields (leb 2147483648 b) (b % 2147483648 / 8388608) (b % 8388608) (mod-lt b (pow_pos 23)) n ∙ ap (λ (k : ℕ). capped (leb 2147483648 b) (cut_fields k (b % 8388608))) (field b 8 23)

pub whole_of : (x : Float) → T (fits binary32 x) → T (not (is_nan x)) → to_signed 31 x ≡ capped (leb 2147483648 (to_bits binary32 x)) (cut_bits (to_bits binary32 x))
whole_of x f n =
    let b = to_bits binary32 x in
    let e : of_bits binary32 b ≡ x = of_bits-to_bits binary32 x f in
    ap (to_signed 31) (sym e) ∙ bits b (subst (λ (k : Float). T (not (is_nan k))) (sym e) n)

fields_le : (e t : ℕ) → t < 8388608 → cut_fields e t ≤ 2147483648
fields_le zero t d = le_trans (le_of_eq (sym (cut_low 0 t (lit< tt)))) (lit≤ tt)
fields_le (suc j) t d = le_trans (le_of_eq (cut_is t j d)) (min-le_right _ 2147483648)

pub cut_le : (b : ℕ) → cut_bits b ≤ 2147483648
unfolding cut_bits
cut_le b = fields_le (b / 8388608 % 256) (b % 8388608) (mod-lt b (pow_pos 23))

-- ---- what `whole` returns
module _ (x : Float) (F : T (fits binary32 x)) (N : T (not (is_nan x))) where
  abbrev b : ℕ
  b = to_bits binary32 x

  pub above : b < 2147483648 → cut_bits b < 2147483648 → pos (cut_bits b) ≡ to_signed 31 x
  above h k = ap pos (omega arith) ∙ ap (λ (s : Bool). capped s (cut_bits b)) (sym (lt-leb 2147483648 b h)) ∙ sym (whole_of x F N)

  pub far_above : b < 2147483648 → 2147483648 ≤ cut_bits b → pos 2147483647 ≡ to_signed 31 x
  far_above h k = ap pos (omega arith) ∙ ap (λ (s : Bool). capped s (cut_bits b)) (sym (lt-leb 2147483648 b h)) ∙ sym (whole_of x F N)

  pub under : 2147483648 ≤ b → neg_ℤ (pos (cut_bits b)) ≡ to_signed 31 x
  under h =
      let q : cut_bits b ≡ min (cut_bits b) 2147483648 = omega (arith, cut_le b) in
      ap (λ (n : ℕ). neg_ℤ (pos n)) q ∙ ap (λ (s : Bool). capped s (cut_bits b)) (sym (le-leb 2147483648 b h)) ∙ sym (whole_of x F N)

pub number : (x : Float) → ne x x ≡ false → T (not (is_nan x))
unfolding ne is_nan
number nan h = subst T h tt
number (inf s) h = tt
number (fin s m e) h = tt

pub no_number : (x : Float) → ne x x ≡ true → pos 0 ≡ to_signed 31 x
unfolding to_signed
no_number x h = ap (to_signed 31) (sym (differs_from_itself x (subst T (sym h) tt)))
