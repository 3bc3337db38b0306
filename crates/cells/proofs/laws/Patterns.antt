-- The numbers that binary32 holds, by the bit patterns from 0 up: a greater pattern has the greater number, so none lies between the numbers of two
-- patterns one after the other. Numbers are in units of the smallest. Assumes nothing.
-- Here: the laws.
use Rattle.basics.specs.Words.{ℕ, zero, suc, ◌+◌, ◌-◌, ◌*◌, ◌/◌, ◌%◌, ◌^◌, ◌≤◌, ◌<◌, ◌≡◌, refl, sym, ap, ◌∙◌, subst, Bool, true, false, not, cond, ◌⊎◌, inl}
use Rattle.basics.specs.Words.{inr, T, leb, ltb, eqb, lit≤, ℤ, lt_irrefl, lt_trans, lt_of_lt_of_le, lt_of_le_of_lt, le_of_eq, mod-lt, mod-eq_of_lt, mul-one}
use Rattle.basics.specs.Words.{mul_assoc, mul_comm, mul-le-mul, pow-suc, mul-lt-mul_of_pos_right, eq_of_mul-eq-mul_right, arith, leb-false, lt-leb, le-ltb}
use Rattle.basics.specs.Words.{ne_eqb, eqb-false}
use lib.Pow.{pow_pos, pow_mono, shl_lt}
use lib.Ieee.{Float, nan, inf, fin, binary32, down, odd, fits, of_fields, of_bits, to_bits, nan_bits}
use lib.Ieee.Fits.{down_pos}
use lib.Ieee.Bits.{of_bits-to_bits, to_bits-lt, nan_bits_above}
use lib.Ieee.Exact.{HasValue, odd_sign}
use lib.Ieee.Scale.{overflow, finite}
use Rattle.basics.proofs.laws.Says.{d_lt, d_eq}
use Rattle.geometry.specs.Inner.Value.{Num}
use Rattle.geometry.proofs.laws.Rounding.{from_value}
use Rattle.cells.specs.Inner.Patterns.{fields_of, number_at, Held}

-- ---- a greater pattern has the greater number
under_next : (e t : ℕ) → t < 8388608 → fields_of e t < 8388608 * 2 ^ e
under_next zero t h = omega arith
under_next (suc k) t h = lt_of_lt_of_le (mul-lt-mul_of_pos_right (omega arith) (pow_pos k)) (le_of_eq (mul_assoc 8388608 2 (2 ^ k) ∙ ap (λ (z : ℕ). 8388608 * z) (mul_comm 2 (2 ^ k) ∙ sym (pow-suc 2 k))))

from_lead : (e k t : ℕ) → e ≤ k → 8388608 * 2 ^ e ≤ fields_of (suc k) t
from_lead e k t h = mul-le-mul (omega arith) (pow_mono h)

fields_rise : (e f t u : ℕ) → t < 8388608 → e < f → fields_of e t < fields_of f u
fields_rise e zero t u h g = absurd (omega arith)
fields_rise e (suc k) t u h g = lt_of_lt_of_le (under_next e t h) (from_lead e k u (omega arith))

digits_rise : (e t u : ℕ) → t < u → fields_of e t < fields_of e u
digits_rise zero t u h = h
digits_rise (suc k) t u h = mul-lt-mul_of_pos_right (omega arith) (pow_pos k)

pub numbers_rise : (a b : ℕ) → a < b → number_at a < number_at b
unfolding number_at
numbers_rise a b h =
    elim (d_lt (a / 8388608) (b / 8388608)) [
      | inl g ↦ fields_rise (a / 8388608) (b / 8388608) (a % 8388608) (b % 8388608) (mod-lt a (pow_pos 23)) g
      | inr g ↦ let e : a / 8388608 ≡ b / 8388608 = omega arith in
          subst (λ (z : ℕ). fields_of (a / 8388608) (a % 8388608) < fields_of z (b % 8388608)) e (digits_rise (a / 8388608) (a % 8388608) (b % 8388608) (omega arith))
    ]

-- ---- the pattern of a number from 0 up
abbrev finite_is : Float → Type 0
finite_is nan = ⊥
finite_is (inf s) = ⊥
finite_is (fin s m e) = Unit {0}

module _ (m : ℕ) (e : ℤ) (p n : ℕ) (v : Num binary32 (fin false m e) p n) where
  from_odd : (s : Bool) (q k : ℕ) → odd 24 s q k 149 ≡ fin false m e → (s ≡ false) × (p ≡ q * 2 ^ k)
  from_odd s q k i =
      let h : HasValue (fin false m e) s (q * 2 ^ k) (2 ^ 149) = subst (λ (x : Float). HasValue x s (q * 2 ^ k) (2 ^ 149)) i (odd_sign 24 s q k 149) in
      (sym h.0, eq_of_mul-eq-mul_right (down e) (down_pos e) p (q * 2 ^ k) (sym v.0 ∙ h.1))

  abbrev Fields : Bool → ℕ → ℕ → Type 0
  Fields s k t = (s ≡ false) × (p ≡ fields_of k t) × (k ≡ 255 → ⊥)

  by_fields : (s : Bool) (k t : ℕ) → of_fields binary32 s k t ≡ fin false m e → Fields s k t
  unfolding of_fields
  by_fields s zero t i = let h = from_odd s t 0 i in (h.0, h.1 ∙ mul-one t, λ z. absurd (omega arith))
  by_fields s (suc k) t i = go (eqb (suc k) 255) (eqb t 0) refl i
    where
      go : (a b : Bool) → eqb (suc k) 255 ≡ a → cond a (cond b (inf s) nan) (odd 24 s (8388608 + t) k 149) ≡ fin false m e → Fields s (suc k) t
      go true true q i = absurd (subst finite_is (sym i) tt)
      go true false q i = absurd (subst finite_is (sym i) tt)
      go false b q i = let h = from_odd s (8388608 + t) k i in (h.0, h.1, eqb-false (suc k) 255 q)

  pub pattern : T (fits binary32 (fin false m e)) → (to_bits binary32 (fin false m e) < 2139095040) × (p ≡ number_at (to_bits binary32 (fin false m e)))
  unfolding of_bits number_at
  pattern f = go (to_bits binary32 (fin false m e)) (to_bits-lt binary32 (fin false m e) f) (of_bits-to_bits binary32 (fin false m e) f)
    where
      go : (b : ℕ) → b < 4294967296 → of_bits binary32 b ≡ fin false m e → (b < 2139095040) × (p ≡ fields_of (b / 8388608) (b % 8388608))
      go b h i =
          let (s, q, z) = by_fields (leb 2147483648 b) (b % 2147483648 / 8388608) (b % 8388608) i in
          let l : b < 2147483648 = leb-false 2147483648 b s in
          let r : b % 2147483648 ≡ b = mod-eq_of_lt l in
          (omega arith, q ∙ ap (λ (k : ℕ). fields_of (k / 8388608) (b % 8388608)) r)

-- ---- the number of a pattern
fields_under : (k t : ℕ) → k < 255 → t < 8388608 → fields_of k t < overflow binary32
fields_under zero t h d = lt_of_lt_of_le d (pow_mono {i = 23} {j = 277} (lit≤ tt))
fields_under (suc k) t h d = lt_of_lt_of_le (shl_lt 24 k (omega arith)) (pow_mono {i = 24 + k} {j = 277} (omega arith))

fields_num : (k t : ℕ) → k < 255 → t < 8388608 → Num binary32 (of_fields binary32 false k t) (fields_of k t) 0
unfolding of_fields
fields_num zero t h d = from_value binary32 (odd 24 false t 0 149) false t (subst (λ (q : ℕ). HasValue (odd 24 false t 0 149) false q (2 ^ 149)) (mul-one t) (odd_sign 24 false t 0 149)) (fields_under 0 t h d)
fields_num (suc k) t h d =
    subst (λ (a : Bool). Num binary32 (cond a (cond (eqb t 0) (inf false) nan) (odd 24 false (8388608 + t) k 149)) ((8388608 + t) * 2 ^ k) 0) (sym (ne_eqb (suc k) 255 (λ q. omega arith)))
    (from_value binary32 (odd 24 false (8388608 + t) k 149) false ((8388608 + t) * 2 ^ k) (odd_sign 24 false (8388608 + t) k 149) (fields_under (suc k) t h d))

pub pattern_num : (b : ℕ) → b < 2139095040 → Num binary32 (of_bits binary32 b) (number_at b) 0
unfolding of_bits number_at
pattern_num b h =
    let l : b < 2147483648 = omega arith in
    let r : b % 2147483648 ≡ b = mod-eq_of_lt l in
    subst (λ (s : Bool). Num binary32 (of_fields binary32 s (b % 2147483648 / 8388608) (b % 8388608)) (fields_of (b / 8388608) (b % 8388608)) 0) (sym (lt-leb 2147483648 b l))
    (subst (λ (k : ℕ). Num binary32 (of_fields binary32 false (k / 8388608) (b % 8388608)) (fields_of (b / 8388608) (b % 8388608)) 0) (sym r)
    (fields_num (b / 8388608) (b % 8388608) (omega arith) (mod-lt b (pow_pos 23))))

pub none-held : Held 0
unfolding number_at
none-held = (0, refl)

unsigned : (m : ℕ) (e : ℤ) → fits binary32 (fin true m e) ≡ fits binary32 (fin false m e)
unfolding fits
unsigned zero e = refl
unsigned (suc m) e = refl

pub both-held : (x : Float) (p n : ℕ) → T (fits binary32 x) → T (finite x) → Num binary32 x p n → Held p × Held n
both-held nan p n f t v = absurd t
both-held (inf s) p n f t v = absurd t
both-held (fin false m e) p n f t v = ((to_bits binary32 (fin false m e), (pattern m e p n v f).1), subst Held (sym v.1) none-held)
both-held (fin true m e) p n f t v = (subst Held (sym v.1) none-held, (to_bits binary32 (fin false m e), (pattern m e n p v (subst T (unsigned m e) f)).1))

-- no number lies between those of a pattern and the next
between : (b c : ℕ) → number_at (c - 1) < number_at b → number_at b < number_at c → ⊥
between b c g h = lt_irrefl b (lt_of_lt_of_le (back b c h) (omega (arith, back (c - 1) b g)))
  where
    back : (a b : ℕ) → number_at a < number_at b → a < b
    back a b h = elim (d_lt a b) [ inl l ↦ l | inr n ↦ absurd (no (d_eq a b) n) ]
      where
        no : (a ≡ b) ⊎ (a ≡ b → ⊥) → (a < b → ⊥) → ⊥
        no (inl e) n = lt_irrefl (number_at a) (lt_of_lt_of_le h (le_of_eq (ap number_at (sym e))))
        no (inr e) n = lt_irrefl (number_at a) (lt_trans h (numbers_rise b a (omega (arith, e, n))))

some : (p : ℕ) → 0 < p → (b : ℕ) → p ≡ number_at b → 0 < b
unfolding number_at
some p h zero e = absurd (omega arith)
some p h (suc b) e = omega arith

-- ---- the pattern before that of a positive number has the greatest number below it
module _ (x : Float) (p : ℕ) (f : T (fits binary32 x)) (v : Num binary32 x p 0) (h : 0 < p) (t : T (finite x)) where
  pub own_pattern : (0 < to_bits binary32 x) × (to_bits binary32 x < 2139095040) × (p ≡ number_at (to_bits binary32 x))
  own_pattern = go x f v t
    where
      go : (x : Float) → T (fits binary32 x) → Num binary32 x p 0 → T (finite x) → (0 < to_bits binary32 x) × (to_bits binary32 x < 2139095040) × (p ≡ number_at (to_bits binary32 x))
      go nan f v t = absurd t
      go (inf s) f v t = absurd t
      go (fin false m e) f v t = let (b, q) = pattern m e p 0 v f in (some p h _ q, b, q)
      go (fin true m e) f v t = absurd (omega (arith, v.1))

  abbrev pub under : ℕ
  under = to_bits binary32 x - 1

  pub under_num : Num binary32 (of_bits binary32 under) (number_at under) 0
  under_num = pattern_num under (omega (arith, own_pattern.1))

  pub under-least : (w : ℕ) → Held w → w < p → w ≤ number_at under
  under-least w (b, e) g =
      elim (d_lt (number_at under) w) [
        | inl i ↦ absurd (between b (to_bits binary32 x) (subst (λ (k : ℕ). number_at under < k) e i) (subst (λ (k : ℕ). k < number_at (to_bits binary32 x)) e (subst (λ (k : ℕ). w < k) own_pattern.2 g)))
        | inr i ↦ omega arith
      ]

  pub under_less : (w : ℕ) → w ≤ number_at under → w < p
  under_less w g = lt_of_le_of_lt g (subst (λ (k : ℕ). number_at under < k) (sym own_pattern.2) (numbers_rise under (to_bits binary32 x) (omega (arith, own_pattern.0))))

-- ---- no pattern up to infinity's is a NaN's
pub number_pattern : (b : ℕ) → b ≤ 2139095040 → T (not (nan_bits binary32 b))
number_pattern b h =
    let r : b % 2147483648 ≡ b = mod-eq_of_lt (omega arith) in
    subst (λ (t : Bool). T (not t)) (sym (nan_bits_above binary32 b ∙ ap (λ (k : ℕ). ltb 2139095040 k) r ∙ le-ltb 2139095040 b h)) tt
