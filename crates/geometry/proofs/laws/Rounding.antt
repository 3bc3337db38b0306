-- Rounding, in units of the format's smallest value: one function, which keeps the order and leaves every value of the format as it is. Assumes nothing.
use Rattle.basics.specs.Words.{ℕ, zero, suc, ◌+◌, ◌-◌, ◌*◌, ◌%◌, ◌^◌, ◌≤◌, ◌<◌, min, ◌≡◌, refl, sym, ap, ◌∙◌, subst, Bool, true, false, not, ◌&&◌, cond}
use Rattle.basics.specs.Words.{true≢false, false≢true, inl, inr, T, leb, ltb, eqb, ltb→lt, nltb→le, leb→le, ℤ, pos, negsuc, le_of_eq, lt_of_lt_of_le}
use Rattle.basics.specs.Words.{lt_of_le_of_lt, lt_irrefl, mul-one, zero-mul, mul_comm, mul_assoc, mul_right_comm, mul-le-mul_right, mul-lt-mul_of_pos_right}
use Rattle.basics.specs.Words.{lt_of_mul-lt-mul_right, eq_of_mul-eq-mul_right, arith}
use lib.Pow.{pow-add, pow_pos, pow-lt}
use lib.Ieee.{Float, nan, inf, fin, Format, prec, emax, low, up, down, odd, units, round, fits}
use lib.Ieee.Digits.{back}
use lib.Ieee.Fits.{down_pos, and_l, and_r, round_is}
use lib.Ieee.Exact.{HasValue, odd_sign, round_exact}
use lib.Ieee.Order.{round_mono, kept, drop}
use lib.Ieee.Scale.{grid, overflow, finite}
use Rattle.basics.proofs.laws.Says.{d_lt}
use Rattle.geometry.specs.Inner.Value.{Num}
use Rattle.geometry.proofs.laws.Value.{le_num, over_pos}

module _ (f : Format) where
  abbrev l : ℕ
  l = 2 ^ low f

  L : 0 < l
  L = pow_pos (low f)

  -- a / c rounded, in units
  abbrev pub rnd : ℕ → ℕ → ℕ
  rnd a c = min (grid f a c) (overflow f)

  pub from_value : (x : Float) (s : Bool) (a : ℕ) → HasValue x s a l → a < overflow f → Num f x (cond s 0 a) (cond s a 0)
  from_value nan s a v h = absurd v
  from_value (inf t) s a v h = absurd v
  from_value (fin false m e) false a v h = (v.1, refl, h)
  from_value (fin false m e) true a v h = absurd (false≢true v.0)
  from_value (fin true m e) false a v h = absurd (true≢false v.0)
  from_value (fin true m e) true a v h = (v.1, refl, h)

  inf_num : (s : Bool) → Num f (inf s) (cond s 0 (overflow f)) (cond s (overflow f) 0)
  inf_num false = (refl, refl)
  inf_num true = (refl, refl)

  units_num : (s : Bool) (q k : ℕ) → Num f (units f s q k) (cond s 0 (min (q * 2 ^ k) (overflow f))) (cond s (min (q * 2 ^ k) (overflow f)) 0)
  unfolding units
  units_num s q k = go (ltb (q * 2 ^ k) (overflow f)) (ltb→lt (q * 2 ^ k) (overflow f)) (nltb→le (q * 2 ^ k) (overflow f))
    where
      go : (b : Bool) → (T b → q * 2 ^ k < overflow f) → (T (not b) → overflow f ≤ q * 2 ^ k)
          → Num f (cond b (odd (suc (prec f)) s q k (low f)) (inf s)) (cond s 0 (min (q * 2 ^ k) (overflow f))) (cond s (min (q * 2 ^ k) (overflow f)) 0)
      go true y n =
          let x = odd (suc (prec f)) s q k (low f) in
          subst (λ (z : ℕ). Num f x (cond s 0 z) (cond s z 0)) (omega (arith, y tt)) (from_value x s (q * 2 ^ k) (odd_sign (suc (prec f)) s q k (low f)) (y tt))
      go false y n = subst (λ (z : ℕ). Num f (inf s) (cond s 0 z) (cond s z 0)) (omega (arith, n tt)) (inf_num s)

  pub round_num : (s : Bool) (a c : ℕ) → Num f (round f s a c) (cond s 0 (rnd a c)) (cond s (rnd a c) 0)
  round_num s a c = subst (λ (x : Float). Num f x (cond s 0 (rnd a c)) (cond s (rnd a c) 0)) (sym (round_is f s a c)) (units_num s (kept (prec f) (a * l) c) (drop (prec f) (a * l) c))

  pub rnd_mono : (a b c d : ℕ) → 0 < b → 0 < d → a * d ≤ c * b → rnd a b ≤ rnd c d
  rnd_mono a b c d B D h = omega (arith, le_num f (round f false a b) (round f false c d) (rnd a b) 0 (rnd c d) 0 (round_num false a b) (round_num false c d) (round_mono f a b c d B D h))

  -- ---- a value that the format holds: m * 2 ^ j units, with m of no more digits than the format keeps
  abbrev Held : ℕ → ℤ → Type 0
  Held m e = (j : ℕ) × (m * up e * l ≡ m * 2 ^ j * down e) × (m * 2 ^ j < overflow f) × (m < 2 ^ prec f)

  pow_le_back : (i k : ℕ) → 2 ^ i ≤ 2 ^ k → i ≤ k
  pow_le_back i k h = elim (d_lt k i) [ inl g ↦ absurd (lt_irrefl (2 ^ k) (lt_of_lt_of_le (pow-lt g) h)) | inr g ↦ omega arith ]

  units_at : (m : ℕ) (e : ℤ) → down e ≤ l → (j : ℕ) × (m * up e * l ≡ m * 2 ^ j * down e)
  units_at m (pos k) h = (k + low f, mul_assoc m (2 ^ k) l ∙ ap (λ (z : ℕ). m * z) (sym (pow-add 2 k (low f))) ∙ sym (mul-one (m * 2 ^ (k + low f))))
  units_at m (negsuc k) h =
      let j = low f - suc k in
      (j, ap (λ (z : ℕ). z * l) (mul-one m) ∙ ap (λ (z : ℕ). m * 2 ^ z) (sym (back (low f) (suc k) (pow_le_back (suc k) (low f) h))) ∙ ap (λ (z : ℕ). m * z) (pow-add 2 j (suc k)) ∙ sym (mul_assoc m (2 ^ j) (2 ^ suc k)))

  small_units : (x k d t : ℕ) → 0 < d → x * l ≡ k * d → x < t * d → k < l * t
  small_units x k d t D p h =
      lt_of_mul-lt-mul_right d (lt_of_le_of_lt (le_of_eq (sym p)) (lt_of_lt_of_le (mul-lt-mul_of_pos_right h L) (le_of_eq (mul_right_comm t d l ∙ ap (λ (z : ℕ). z * d) (mul_comm t l)))))

  pub held : (s : Bool) (m : ℕ) (e : ℤ) → T (fits f (fin s m e)) → Held m e
  unfolding fits
  held s zero e t = (0, ap (λ (z : ℕ). z * l) (zero-mul (up e)) ∙ zero-mul l ∙ sym (zero-mul (down e)), over_pos f, pow_pos (prec f))
  held s (suc m) e t =
      let a : Bool = eqb (suc m % 2) 1 in
      let b : Bool = ltb (suc m) (2 ^ prec f) in
      let c : Bool = leb (down e) (2 ^ low f) in
      let d : Bool = ltb (suc m * up e) (2 ^ suc (emax f) * down e) in
      let u = units_at (suc m) e (leb→le (down e) (2 ^ low f) (and_r (a && b) c (and_l (a && b && c) d t))) in (
        u.0,
        u.1,
        lt_of_lt_of_le (small_units (suc m * up e) (suc m * 2 ^ u.0) (down e) (2 ^ suc (emax f)) (down_pos e) u.1 (ltb→lt (suc m * up e) (2 ^ suc (emax f) * down e) (and_r (a && b && c) d t)))
            (le_of_eq (sym (pow-add 2 (low f) (suc (emax f))))),
        ltb→lt (suc m) (2 ^ prec f) (and_r a b (and_l (a && b) c (and_l (a && b && c) d t))),
      )

  -- every value that the format holds, but a NaN and an infinity, has a number
  abbrev pub Some : Float → Type 0
  Some x = (p : ℕ) × (n : ℕ) × Num f x p n

  pub number : (x : Float) → T (fits f x) → T (finite x) → Some x
  number nan t h = absurd h
  number (inf s) t h = absurd h
  number (fin false m e) t h = let u = held false m e t in (m * 2 ^ u.0, 0, (u.1, refl, u.2))
  number (fin true m e) t h = let u = held true m e t in (0, m * 2 ^ u.0, (u.1, refl, u.2))

  -- ---- rounding leaves it as it is
  abbrev pub R : ℕ → ℕ
  R k = rnd k l

  pub R_mono : (a b : ℕ) → a ≤ b → R a ≤ R b
  R_mono a b h = rnd_mono a l b l L L (mul-le-mul_right l h)

  unique : (x : Float) (k p : ℕ) → HasValue x false k l → Num f x p 0 → p ≡ k
  unique nan k p v w = absurd v
  unique (inf t) k p v w = absurd v
  unique (fin true m e) k p v w = absurd (true≢false v.0)
  unique (fin false m e) k p v w = eq_of_mul-eq-mul_right (down e) (down_pos e) p k (sym w.0 ∙ v.1)

  fixed_at : (m : ℕ) (e : ℤ) (k : ℕ) → Held m e → m * up e * l ≡ k * down e → R k ≡ k
  fixed_at m e k (j, a, b, c) p =
      let i : k ≡ m * 2 ^ j = eq_of_mul-eq-mul_right (down e) (down_pos e) k (m * 2 ^ j) (sym p ∙ a) in
      unique (round f false k l) k (R k) (round_exact f false k l m j L c b (ap (λ (z : ℕ). z * l) i)) (round_num false k l)

  pub R_zero : R 0 ≡ 0
  R_zero = fixed_at 0 (pos 0) 0 (held false 0 (pos 0) (unfold fits in tt)) (ap (λ (z : ℕ). z * l) (zero-mul 1) ∙ zero-mul l)

  pub fixed : (x : Float) (p n : ℕ) → T (fits f x) → T (finite x) → Num f x p n → (R p ≡ p) × (R n ≡ n)
  fixed nan p n t h v = absurd h
  fixed (inf s) p n t h v = absurd h
  fixed (fin false m e) p n t h v = (fixed_at m e p (held false m e t) v.0, ap R v.1 ∙ R_zero ∙ sym v.1)
  fixed (fin true m e) p n t h v = (ap R v.1 ∙ R_zero ∙ sym v.1, fixed_at m e n (held true m e t) v.0)
