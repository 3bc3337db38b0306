-- Rounding keeps the order: of sums, of differences in either place, and of squares by magnitude. Assumes nothing.
use Rattle.basics.specs.Words.{ℕ, ◌+◌, ◌-◌, ◌≤◌, refl, true, false, T, arith}
use lib.Ieee.{Float, nan, inf, fin, Format, add, sub, mul, le}
use Rattle.geometry.specs.Meaning.Intersects.{absolute}
use Rattle.geometry.specs.Inner.Value.{Num}
use Rattle.geometry.proofs.laws.Value.{le_num, cast}
use Rattle.geometry.proofs.laws.Rounding.{R, R_mono, number}
use Rattle.geometry.proofs.laws.Sums.{add_num, sub_num, sq_num, square, square_mono}
use Rattle.geometry.proofs.laws.Back.{num_le}
use Rattle.geometry.proofs.laws.Around.{Plain}

module _ (f : Format) where
  -- two numbers that are a - b and c - d, each part rounded
  ordered : (x y : Float) (a b c d : ℕ) → Num f x (R f a) (R f b) → Num f y (R f c) (R f d) → a ≤ c → d ≤ b → T (le x y)
  ordered x y a b c d u v h g = num_le f x y (R f a) (R f b) (R f c) (R f d) u v (omega (arith, R_mono f a c h, R_mono f d b g))

  module _ (x y z : Float) (fx : Plain f x) (fy : Plain f y) (fz : Plain f z) (h : T (le x y)) where
    -- what follows from the numbers of all three
    by_numbers : {P : Type 0} → ((p n q k r t : ℕ) → Num f x p n → Num f y q k → Num f z r t → p + k ≤ q + n → P) → P
    by_numbers g =
        let (p, n, u) = number f x fx.0 fx.1 in
        let (q, k, v) = number f y fy.0 fy.1 in
        let (r, t, w) = number f z fz.0 fz.1 in
        g p n q k r t u v w (le_num f x y p n q k u v h)

    pub add_mono : T (le (add f x z) (add f y z))
    add_mono = by_numbers (λ p n q k r t u v w i. ordered (add f x z) (add f y z) (p + r - (n + t)) (n + t - (p + r)) (q + r - (k + t)) (k + t - (q + r))
        (add_num f x z p n r t fx.1 fz.1 u w) (add_num f y z q k r t fy.1 fz.1 v w) (omega arith) (omega arith))

    pub sub_mono : T (le (sub f x z) (sub f y z))
    sub_mono = by_numbers (λ p n q k r t u v w i. ordered (sub f x z) (sub f y z) (p + t - (n + r)) (n + r - (p + t)) (q + t - (k + r)) (k + r - (q + t))
        (sub_num f x z p n r t fx.1 fz.1 u w) (sub_num f y z q k r t fy.1 fz.1 v w) (omega arith) (omega arith))

    pub sub_anti : T (le (sub f z y) (sub f z x))
    sub_anti = by_numbers (λ p n q k r t u v w i. ordered (sub f z y) (sub f z x) (r + k - (t + q)) (t + q - (r + k)) (r + n - (t + p)) (t + p - (r + n))
        (sub_num f z y r t q k fz.1 fy.1 w v) (sub_num f z x r t p n fz.1 fx.1 w u) (omega arith) (omega arith))

  -- the magnitude's value
  size_num : (x : Float) (p n : ℕ) → Num f x p n → Num f (absolute x) (p + n) 0
  size_num nan p n v = v
  size_num (inf false) p n v = cast f (inf false) p 0 (p + n) 0 (v.0, refl) (omega (arith, v.1)) refl
  size_num (inf true) p n v = cast f (inf false) n 0 (p + n) 0 (v.0, refl) (omega (arith, v.1)) refl
  size_num (fin false m e) p n v = cast f (fin false m e) p 0 (p + n) 0 (v.0, refl, v.2) (omega (arith, v.1)) refl
  size_num (fin true m e) p n v = cast f (fin false m e) n 0 (p + n) 0 (v.0, refl, v.2) (omega (arith, v.1)) refl

  pub mul_mono : (x y : Float) → Plain f x → Plain f y → T (le (absolute x) (absolute y)) → T (le (mul f x x) (mul f y y))
  mul_mono x y fx fy h =
      let (p, n, u) = number f x fx.0 fx.1 in
      let (q, k, v) = number f y fy.0 fy.1 in
      let i = le_num f (absolute x) (absolute y) (p + n) 0 (q + k) 0 (size_num x p n u) (size_num y q k v) h in
      num_le f (mul f x x) (mul f y y) (square f x) 0 (square f y) 0 (sq_num f x fx.1) (sq_num f y fy.1)
      (omega (arith, square_mono f x y p n q k fx.1 fy.1 u v (omega arith)))
