-- From the values to the tests: the order of two floats' values is what `le` and `lt` answer. Assumes nothing.
use Rattle.basics.specs.Words.{ℕ, ◌+◌, ◌*◌, ◌^◌, ◌≤◌, ◌<◌, ◌≡◌, sym, ◌∙◌, subst, Bool, true, false, not, ◌&&◌, ◌||◌, beq, inl, inr, T, ltb, eqb, eqb_refl}
use Rattle.basics.specs.Words.{lt→ltb, T_not, le_of_eq, eq-or-lt_of_le, eq-zero-or-pos, mul-pos, arith}
use lib.Pow.{pow_pos}
use lib.Ieee.{Float, nan, inf, fin, Format, low, up, down, lt, eq, le}
use lib.Ieee.Fits.{down_pos, and_i}
use Rattle.basics.proofs.laws.Says.{d_le}
use Rattle.geometry.specs.Inner.Value.{Num}
use Rattle.geometry.proofs.laws.Value.{or_cases, over_pos, scaled_le, scaled_zero, common, common', eq_num}

pub or_l : (a b : Bool) → T a → T (a || b)
or_l true b t = tt
or_l false b t = absurd t

or_r : (a b : Bool) → T b → T (a || b)
or_r true b t = tt
or_r false b t = t

same : (a b : ℕ) → a ≡ b → T (eqb a b)
same a b e = subst (λ (z : ℕ). T (eqb a z)) e (eqb_refl a)

-- the tests of `le` at two signs
pub le_ff : (a b : ℕ) → a ≤ b → T (ltb a b || (eqb a b && true))
le_ff a b h = elim (eq-or-lt_of_le h) [ inl e ↦ or_r (ltb a b) (eqb a b && true) (and_i (eqb a b) true (same a b e) tt) | inr g ↦ or_l (ltb a b) (eqb a b && true) (lt→ltb a b g) ]

pub le_tt : (a b : ℕ) → b ≤ a → T (ltb b a || (eqb a b && true))
le_tt a b h = elim (eq-or-lt_of_le h) [ inl e ↦ or_r (ltb b a) (eqb a b && true) (and_i (eqb a b) true (same a b (sym e)) tt) | inr g ↦ or_l (ltb b a) (eqb a b && true) (lt→ltb b a g) ]

le_zz : (a b : ℕ) → a ≡ 0 → b ≡ 0 → T (eqb a b && (false || eqb a 0))
le_zz a b e g = and_i (eqb a b) (eqb a 0) (same a b (e ∙ sym g)) (same a 0 e)

pub le_tf : (a b : ℕ) → T (ltb 0 (a + b) || (eqb a b && (false || eqb a 0)))
le_tf a b = elim (eq-zero-or-pos (a + b)) [ inl e ↦ or_r (ltb 0 (a + b)) (eqb a b && (false || eqb a 0)) (le_zz a b (omega arith) (omega arith)) | inr g ↦ or_l (ltb 0 (a + b)) (eqb a b && (false || eqb a 0)) (lt→ltb 0 (a + b) g) ]

module _ (f : Format) where
  abbrev l : ℕ
  l = 2 ^ low f

  L : 0 < l
  L = pow_pos (low f)

  -- no finite value reaches an infinity's
  pub num_le : (x y : Float) (p n q k : ℕ) → Num f x p n → Num f y q k → p + k ≤ q + n → T (le x y)
  unfolding le lt eq
  num_le nan y p n q k v w h = absurd v
  num_le (inf s) nan p n q k v w h = absurd w
  num_le (inf false) (inf false) p n q k v w h = tt
  num_le (inf true) (inf t) p n q k v w h = or_true t
    where
      or_true : (t : Bool) → T ((true && not t) || beq true t)
      or_true true = tt
      or_true false = tt
  num_le (inf false) (inf true) p n q k v w h = absurd (omega (arith, over_pos f, v.0, w.1, v.1))
  num_le (inf false) (fin false b d) p n q k v w h = absurd (omega (arith, v.1, le_of_eq (sym v.0), w.2))
  num_le (inf false) (fin true b d) p n q k v w h = absurd (omega (arith, over_pos f, v.0, w.1, v.1))
  num_le (inf true) (fin t b d) p n q k v w h = tt
  num_le (fin s a e) nan p n q k v w h = absurd w
  num_le (fin s a e) (inf false) p n q k v w h = tt
  num_le (fin false a e) (inf true) p n q k v w h = absurd (omega (arith, over_pos f, w.0, w.1, v.1))
  num_le (fin true a e) (inf true) p n q k v w h = absurd (omega (arith, w.0, w.1, v.2))
  num_le (fin false a e) (fin false b d) p n q k v w h =
      le_ff (a * up e * down d) (b * up d * down e)
      (scaled_le p q (down e * down d) (a * up e * down d) (b * up d * down e) l L (mul-pos (down_pos e) (down_pos d)) (sym (common (a * up e) l p (down e) (down d) v.0)) (sym (common' (b * up d) l q (down e) (down d) w.0)) (omega (arith, v.1, w.1)))
  num_le (fin true a e) (fin true b d) p n q k v w h =
      le_tt (a * up e * down d) (b * up d * down e)
      (scaled_le k n (down e * down d) (b * up d * down e) (a * up e * down d) l L (mul-pos (down_pos e) (down_pos d)) (sym (common' (b * up d) l k (down e) (down d) w.0)) (sym (common (a * up e) l n (down e) (down d) v.0)) (omega (arith, v.1, w.1)))
  num_le (fin true a e) (fin false b d) p n q k v w h = le_tf (a * up e * down d) (b * up d * down e)
  num_le (fin false a e) (fin true b d) p n q k v w h =
      le_zz (a * up e * down d) (b * up d * down e)
      (scaled_zero p (down e * down d) (a * up e * down d) l L (sym (common (a * up e) l p (down e) (down d) v.0)) (omega (arith, v.1, w.1)))
      (scaled_zero k (down e * down d) (b * up d * down e) l L (sym (common' (b * up d) l k (down e) (down d) w.0)) (omega (arith, v.1, w.1)))

  pub num_lt : (x y : Float) (p n q k : ℕ) → Num f x p n → Num f y q k → p + k < q + n → T (lt x y)
  unfolding le
  num_lt x y p n q k v w h = elim (or_cases (lt x y) (eq x y) (num_le x y p n q k v w (omega arith))) [ inl t ↦ t | inr t ↦ absurd (omega (arith, eq_num f x y p n q k v w t)) ]

  -- what is not less is no less
  pub not-lt→le : (x y : Float) (p n q k : ℕ) → Num f x p n → Num f y q k → T (not (lt x y)) → T (le y x)
  not-lt→le x y p n q k v w t =
      elim (d_le (q + n) (p + k)) [ inl i ↦ num_le y x q k p n w v i | inr i ↦ absurd (T_not (lt x y) t (num_lt x y p n q k v w (omega arith))) ]
