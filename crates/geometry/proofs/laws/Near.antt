-- A point that the circle test finds differs from the centre by less than the radius on each axis, as the machine rounds the differences. Assumes nothing.
use Rattle.basics.specs.Words.{ℕ, suc, ◌+◌, ◌-◌, ◌≤◌, ◌<◌, ◌≡◌, refl, sym, subst, true, false, inl, inr, T, lt_irrefl, arith}
use lib.Pow.{pow_pos}
use lib.Ieee.{Float, nan, inf, fin, Format, emax, low, add, mul, lt}
use lib.Ieee.Fits.{mul-fits}
use lib.Ieee.Scale.{finite, overflow}
use Rattle.basics.proofs.laws.Says.{d_le}
use Rattle.geometry.specs.Inner.Value.{Num}
use Rattle.geometry.proofs.laws.Value.{lt_num}
use Rattle.geometry.proofs.laws.Rounding.{R, R_mono, R_zero, fixed}
use Rattle.geometry.proofs.laws.Sums.{add_num, sq_num, square, square_mono}

module _ (f : Format) where
  -- ---- what is less than something is no positive infinity
  inf_lt : (z : Float) → T (lt (inf false) z) → ⊥
  unfolding lt
  inf_lt nan h = h
  inf_lt (inf t) h = h
  inf_lt (fin t m e) h = h

  nan_lt : (z : Float) → T (lt nan z) → ⊥
  unfolding lt
  nan_lt z h = h

  fin_l : (x y z : Float) (a : ℕ) → Num f x a 0 → T (lt (add f x y) z) → T (finite x)
  unfolding add
  fin_l nan y z a v h = absurd v
  fin_l (inf true) y z a v h = absurd (lt_irrefl 0 (subst (λ (o : ℕ). 0 < o) (sym v.0) (pow_pos (low f + suc (emax f)))))
  fin_l (inf false) nan z a v h = absurd (nan_lt z h)
  fin_l (inf false) (inf true) z a v h = absurd (nan_lt z h)
  fin_l (inf false) (inf false) z a v h = absurd (inf_lt z h)
  fin_l (inf false) (fin t n d) z a v h = absurd (inf_lt z h)
  fin_l (fin s m e) y z a v h = tt

  fin_r : (y x z : Float) (a b : ℕ) → Num f x a 0 → Num f y b 0 → T (lt (add f x y) z) → T (finite y)
  unfolding add
  fin_r nan x z a b v w h = absurd w
  fin_r (inf true) x z a b v w h = absurd (lt_irrefl 0 (subst (λ (o : ℕ). 0 < o) (sym w.0) (pow_pos (low f + suc (emax f)))))
  fin_r (inf false) nan z a b v w h = absurd v
  fin_r (inf false) (inf true) z a b v w h = absurd (nan_lt z h)
  fin_r (inf false) (inf false) z a b v w h = absurd (inf_lt z h)
  fin_r (inf false) (fin s m e) z a b v w h = absurd (inf_lt z h)
  fin_r (fin t n d) x z a b v w h = tt

  -- a square is not negative
  sq_some : (x : Float) (p n : ℕ) → Num f x p n → (a : ℕ) × Num f (mul f x x) a 0
  unfolding mul
  sq_some nan p n v = absurd v
  sq_some (inf false) p n v = (overflow f, (refl, refl))
  sq_some (inf true) p n v = (overflow f, (refl, refl))
  sq_some (fin s m e) p n v = (square f (fin s m e), sq_num f (fin s m e) tt)

  -- a square is finite only of what is finite
  of_square : (x : Float) (p n : ℕ) → Num f x p n → T (finite (mul f x x)) → T (finite x)
  unfolding mul
  of_square nan p n v h = absurd v
  of_square (inf false) p n v h = h
  of_square (inf true) p n v h = h
  of_square (fin s m e) p n v h = tt

  less : (x r a : ℕ) → R f a + 0 < r + R f 0 → R f x ≤ R f a → x ≡ R f x → x < r
  less x r a h g e = omega (arith, R_zero f)

  -- ---- a point that is found differs by less than r
  module _ (x y r : Float) (p n q k pr nr : ℕ) (v : Num f x p n) (w : Num f y q k) (u : Num f r pr nr) (fr : T (finite r)) (h : T (lt (add f (mul f x x) (mul f y y)) (mul f r r))) where
    found_fx : T (finite (mul f x x))
    found_fx = let a = sq_some x p n v in fin_l (mul f x x) (mul f y y) (mul f r r) a.0 a.1 h

    found_fy : T (finite (mul f y y))
    found_fy =
        let a = sq_some x p n v in
        let b = sq_some y q k w in
        fin_r (mul f y y) (mul f x x) (mul f r r) a.0 b.0 a.1 b.1 h

    fx : T (finite x)
    fx = of_square x p n v found_fx

    fy : T (finite y)
    fy = of_square y q k w found_fy

    both : R f (square f x + square f y - (0 + 0)) + 0 < square f r + R f (0 + 0 - (square f x + square f y))
    both =
        lt_num f (add f (mul f x x) (mul f y y)) (mul f r r) (R f (square f x + square f y - (0 + 0))) (R f (0 + 0 - (square f x + square f y))) (square f r) 0
        (add_num f (mul f x x) (mul f y y) (square f x) 0 (square f y) 0 found_fx found_fy (sq_num f x fx) (sq_num f y fy)) (sq_num f r fr) h

    sum_lt : R f (square f x + square f y) + 0 < square f r + R f 0
    sum_lt = subst (λ (s : ℕ). R f s + 0 < square f r + R f 0) (omega arith) (subst (λ (s : ℕ). R f (square f x + square f y - (0 + 0)) + 0 < square f r + R f s) (omega arith) both)

    x_less : square f x < square f r
    x_less = less (square f x) (square f r) (square f x + square f y) sum_lt (R_mono f (square f x) (square f x + square f y) (omega arith)) (sym (fixed f (mul f x x) (square f x) 0 (mul-fits f x x) found_fx (sq_num f x fx)).0)

    y_less : square f y < square f r
    y_less = less (square f y) (square f r) (square f x + square f y) sum_lt (R_mono f (square f y) (square f x + square f y) (omega arith)) (sym (fixed f (mul f y y) (square f y) 0 (mul-fits f y y) found_fy (sq_num f y fy)).0)

    clash : (a b c d : ℕ) → (a ≤ b → c ≤ d) → d < c → b < a
    clash a b c d g h = elim (d_le a b) [ inl i ↦ absurd (omega (arith, g i)) | inr i ↦ omega arith ]

    pub x-near : p + n < pr + nr
    x-near = clash (pr + nr) (p + n) (square f r) (square f x) (square_mono f r x pr nr p n fr fx u v) x_less

    pub y-near : q + k < pr + nr
    y-near = clash (pr + nr) (q + k) (square f r) (square f y) (square_mono f r y pr nr q k fr fy u w) y_less
