-- A float's value as a signed whole number of the format's smallest value: p - n, where p or n is 0. An infinity counts as the least number that is too large.
-- `Num f x p n` says that x is no NaN and has that value. The order is that of the values. Assumes nothing.
-- Here: the laws.
use Rattle.basics.specs.Words.{ℕ, suc, ◌+◌, ◌*◌, ◌^◌, ◌≤◌, ◌<◌, ◌≡◌, sym, ap, ◌∙◌, subst, Bool, true, false, ◌||◌, ◌⊎◌, inl, inr, T, eqb, ltb→lt, eqb→eq}
use Rattle.basics.specs.Words.{eq-zero-or-pos, le_trans, le_of_eq, lt_of_lt_of_le, lt_of_le_of_lt, lt_irrefl, zero-mul, mul_comm, mul_assoc, mul_right_comm}
use Rattle.basics.specs.Words.{mul-le-mul_right, mul-lt-mul_of_pos_right, lt_of_mul-lt-mul_right, le_of_mul-le-mul_right, mul-pos, add-mul}
use Rattle.basics.specs.Words.{eq_of_mul-eq-mul_right, arith}
use lib.Pow.{pow_pos}
use lib.Ieee.{Float, nan, inf, fin, Format, emax, low, up, down, lt, eq, le}
use lib.Ieee.Fits.{down_pos, and_l, and_r}
use lib.Ieee.Scale.{overflow}
use Rattle.geometry.specs.Inner.Value.{Num}

pub or_cases : (a b : Bool) → T (a || b) → T a ⊎ T b
or_cases true b h = inl tt
or_cases false b h = inr h

pub over_pos : (f : Format) → 0 < overflow f
over_pos f = pow_pos (low f + suc (emax f))

pub cast : (f : Format) (x : Float) (p n q m : ℕ) → Num f x p n → p ≡ q → n ≡ m → Num f x q m
cast f x p n q m v a b = subst (λ (k : ℕ). Num f x k m) a (subst (λ (k : ℕ). Num f x p k) b v)

-- ---- of two scaled numbers: a / l is k / w, and b / l is j / w
module _ (a b l k j w : ℕ) (W : 0 < w) (L : 0 < l) (p : a * l ≡ k * w) (q : b * l ≡ j * w) where
  pub scaled_lt : a < b → k < j
  scaled_lt h = lt_of_mul-lt-mul_right w (lt_of_le_of_lt (le_of_eq (sym p)) (lt_of_lt_of_le (mul-lt-mul_of_pos_right h L) (le_of_eq q)))

  pub scaled_le : a ≤ b → k ≤ j
  scaled_le h = le_of_mul-le-mul_right (le_trans (le_of_eq (sym p)) (le_trans (mul-le-mul_right l h) (le_of_eq q))) W

  scaled_eq : a ≡ b → k ≡ j
  scaled_eq h = eq_of_mul-eq-mul_right w W k j (sym p ∙ ap (λ (z : ℕ). z * l) h ∙ q)

  scaled_sum : 0 < a + b → 0 < k + j
  scaled_sum h =
      elim (eq-zero-or-pos (k + j)) [
        | inl z ↦ absurd (lt_irrefl 0 (subst (λ (y : ℕ). 0 < y) (add-mul a b l ∙ ap (λ (y : ℕ). y + b * l) p ∙ ap (λ (y : ℕ). k * w + y) q ∙ sym (add-mul k j w) ∙ ap (λ (y : ℕ). y * w) z ∙ zero-mul w) (mul-pos h L)))
        | inr g ↦ g
      ]

pub scaled_zero : (a l k w : ℕ) → 0 < w → a * l ≡ k * w → a ≡ 0 → k ≡ 0
scaled_zero a l k w W p h = eq_of_mul-eq-mul_right w W k 0 (sym p ∙ ap (λ (z : ℕ). z * l) h ∙ zero-mul l ∙ sym (zero-mul w))

-- over a common denominator
pub common : (x l k de dd : ℕ) → x * l ≡ k * de → x * dd * l ≡ k * (de * dd)
common x l k de dd p = mul_right_comm x dd l ∙ ap (λ (z : ℕ). z * dd) p ∙ mul_assoc k de dd

pub common' : (y l j de dd : ℕ) → y * l ≡ j * dd → y * de * l ≡ j * (de * dd)
common' y l j de dd p = common y l j dd de p ∙ ap (λ (z : ℕ). j * z) (mul_comm dd de)

-- ---- the order is that of the values
module _ (f : Format) where
  abbrev l : ℕ
  l = 2 ^ low f

  L : 0 < l
  L = pow_pos (low f)

  pub lt_num : (x y : Float) (p n q k : ℕ) → Num f x p n → Num f y q k → T (lt x y) → p + k < q + n
  unfolding lt
  lt_num nan y p n q k v w h = absurd v
  lt_num (inf s) nan p n q k v w h = absurd w
  lt_num (inf false) (inf t) p n q k v w h = absurd h
  lt_num (inf true) (inf true) p n q k v w h = absurd h
  lt_num (inf true) (inf false) p n q k v w h = omega (arith, v.1, w.1, over_pos f, v.0)
  lt_num (inf false) (fin t b d) p n q k v w h = absurd h
  lt_num (inf true) (fin false b d) p n q k v w h = omega (arith, v.1, w.1, over_pos f, v.0)
  lt_num (inf true) (fin true b d) p n q k v w h = omega (arith, v.1, w.1, lt_of_lt_of_le w.2 (le_of_eq (sym v.0)))
  lt_num (fin s a e) nan p n q k v w h = absurd w
  lt_num (fin s a e) (inf true) p n q k v w h = absurd h
  lt_num (fin false a e) (inf false) p n q k v w h = omega (arith, v.1, w.1, lt_of_lt_of_le v.2 (le_of_eq (sym w.0)))
  lt_num (fin true a e) (inf false) p n q k v w h = omega (arith, v.1, w.1, over_pos f, w.0)
  lt_num (fin false a e) (fin true b d) p n q k v w h = absurd h
  lt_num (fin false a e) (fin false b d) p n q k v w h =
      omega (arith, v.1, w.1, scaled_lt (a * up e * down d) (b * up d * down e) l p q (down e * down d) (mul-pos (down_pos e) (down_pos d)) L (common (a * up e) l p (down e) (down d) v.0) (common' (b * up d) l q (down e) (down d) w.0) (ltb→lt (a * up e * down d) (b * up d * down e) h))
  lt_num (fin true a e) (fin false b d) p n q k v w h =
      omega (arith, v.1, w.1, scaled_sum (a * up e * down d) (b * up d * down e) l n q (down e * down d) (mul-pos (down_pos e) (down_pos d)) L (common (a * up e) l n (down e) (down d) v.0) (common' (b * up d) l q (down e) (down d) w.0) (ltb→lt 0 (a * up e * down d + b * up d * down e) h))
  lt_num (fin true a e) (fin true b d) p n q k v w h =
      omega (arith, v.1, w.1, scaled_lt (b * up d * down e) (a * up e * down d) l k n (down e * down d) (mul-pos (down_pos e) (down_pos d)) L (common' (b * up d) l k (down e) (down d) w.0) (common (a * up e) l n (down e) (down d) v.0) (ltb→lt (b * up d * down e) (a * up e * down d) h))

  pub eq_num : (x y : Float) (p n q k : ℕ) → Num f x p n → Num f y q k → T (eq x y) → p + k ≡ q + n
  unfolding eq
  eq_num nan y p n q k v w h = absurd v
  eq_num (inf s) nan p n q k v w h = absurd w
  eq_num (inf false) (inf false) p n q k v w h = omega (arith, v.1, w.1, v.0 ∙ sym w.0)
  eq_num (inf false) (inf true) p n q k v w h = absurd h
  eq_num (inf true) (inf false) p n q k v w h = absurd h
  eq_num (inf true) (inf true) p n q k v w h = omega (arith, v.1, w.1, v.0 ∙ sym w.0)
  eq_num (inf s) (fin t b d) p n q k v w h = absurd h
  eq_num (fin s a e) nan p n q k v w h = absurd w
  eq_num (fin s a e) (inf t) p n q k v w h = absurd h
  eq_num (fin false a e) (fin false b d) p n q k v w h =
      let x = a * up e * down d in
      let y = b * up d * down e in
      omega (arith, v.1, w.1, scaled_eq x y l p q (down e * down d) (mul-pos (down_pos e) (down_pos d)) L (common (a * up e) l p (down e) (down d) v.0) (common' (b * up d) l q (down e) (down d) w.0) (eqb→eq x y (and_l (eqb x y) true h)))
  eq_num (fin true a e) (fin true b d) p n q k v w h =
      let x = a * up e * down d in
      let y = b * up d * down e in
      omega (arith, v.1, w.1, scaled_eq x y l n k (down e * down d) (mul-pos (down_pos e) (down_pos d)) L (common (a * up e) l n (down e) (down d) v.0) (common' (b * up d) l k (down e) (down d) w.0) (eqb→eq x y (and_l (eqb x y) true h)))
  eq_num (fin false a e) (fin true b d) p n q k v w h =
      let x = a * up e * down d in
      let y = b * up d * down e in
      let z : x ≡ 0 = eqb→eq x 0 (and_r (eqb x y) (eqb x 0) h) in
      let z' : y ≡ 0 = sym (eqb→eq x y (and_l (eqb x y) (eqb x 0) h)) ∙ z in
      let W : 0 < down e * down d = mul-pos (down_pos e) (down_pos d) in
      omega (arith, scaled_zero x l p (down e * down d) W (common (a * up e) l p (down e) (down d) v.0) z, v.1, w.1, scaled_zero y l k (down e * down d) W (common' (b * up d) l k (down e) (down d) w.0) z')
  eq_num (fin true a e) (fin false b d) p n q k v w h =
      let x = a * up e * down d in
      let y = b * up d * down e in
      let z : x ≡ 0 = eqb→eq x 0 (and_r (eqb x y) (eqb x 0) h) in
      let z' : y ≡ 0 = sym (eqb→eq x y (and_l (eqb x y) (eqb x 0) h)) ∙ z in
      let W : 0 < down e * down d = mul-pos (down_pos e) (down_pos d) in
      omega (arith, v.1, scaled_zero x l n (down e * down d) W (common (a * up e) l n (down e) (down d) v.0) z, scaled_zero y l q (down e * down d) W (common' (b * up d) l q (down e) (down d) w.0) z', w.1)

  pub le_num : (x y : Float) (p n q k : ℕ) → Num f x p n → Num f y q k → T (le x y) → p + k ≤ q + n
  unfolding le
  le_num x y p n q k v w h = elim (or_cases (lt x y) (eq x y) h) [ inl t ↦ (omega (arith, lt_num x y p n q k v w t)) | inr t ↦ le_of_eq (eq_num x y p n q k v w t) ]

  pub either : (x : Float) (p n : ℕ) → Num f x p n → (p ≡ 0) ⊎ (n ≡ 0)
  either nan p n v = absurd v
  either (inf false) p n v = inr v.1
  either (inf true) p n v = inl v.1
  either (fin false m e) p n v = inr v.1
  either (fin true m e) p n v = inl v.1
