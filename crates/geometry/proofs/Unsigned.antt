-- The three ways out of `absolute`, each of which is the number without its sign. Assumes nothing.
use Rattle.basics.specs.Words.{ℕ, zero, suc, ◌+◌, ◌*◌, ◌^◌, ◌<◌, ◌≡◌, refl, sym, ap, ◌∙◌, Bool, true, false, ◌&&◌, ◌||◌, T, eqb, eqb→eq, ltb, lit<, ℤ, pos}
use Rattle.basics.specs.Words.{negsuc, mul-one, one-mul, zero-mul, mul-pos, arith, eq-eqb, eqb-true, ltb-true, ltb-false}
use lib.Pow.{pow-lt}
use lib.Ieee.{Float, nan, inf, fin, binary32, up, down, eq, lt, neg, fits}
use lib.Ieee.Fits.{up_pos}
use Rattle.basics.proofs.laws.Says.{apart, both_true}
use Rattle.geometry.specs.Meaning.Intersects.{absolute}

abbrev none : Float
none = fin false 0 (pos 0)

-- nothing is below 0 / d
no_less : (a d : ℕ) → a < 0 * d → ⊥
no_less a d h = omega (arith, zero-mul d)

not_none : (a d : ℕ) (t : Bool) → 0 < a → (eqb a (0 * d) && t) ≡ true → ⊥
not_none a d t h e = omega (arith, zero-mul d, eqb-true a (0 * d) (both_true (eqb a (0 * d)) t e).0)

-- of two that add up to nothing neither differs from 0
some-none : (a d : ℕ) → (eqb a (0 * d) && (false || eqb a 0)) ≡ false → ltb 0 (a + 0 * d) ≡ false → ⊥
some-none a d g h =
    let z : 0 * d ≡ 0 = zero-mul d in
    let l = ltb-false 0 (a + 0 * d) h in
    let e : a ≡ 0 = omega arith in
    let i : a ≡ 0 * d = omega arith in
    apart (sym g ∙ ap (λ (p : Bool). p && (false || eqb a 0)) (eq-eqb a (0 * d) i) ∙ eq-eqb a 0 e)

-- a zero is written in one way
exponent : (e : ℤ) → T (eqb (up e * down e) 1) → e ≡ pos 0
exponent (pos zero) h = refl
exponent (pos (suc k)) h = absurd (omega (arith, pow-lt {i = 0} {j = suc k} (omega arith), sym (mul-one (2 ^ suc k)) ∙ eqb→eq (2 ^ suc k * 1) 1 h))
exponent (negsuc k) h = absurd (omega (arith, pow-lt {i = 0} {j = suc k} (omega arith), sym (one-mul (2 ^ suc k)) ∙ eqb→eq (1 * 2 ^ suc k) 1 h))

pub of_zero : (x : Float) → T (fits binary32 x) → eq x none ≡ true → none ≡ absolute x
unfolding eq fits
of_zero nan f h = absurd (apart h)
of_zero (inf s) f h = absurd (apart h)
of_zero (fin s zero e) f h = ap (λ (z : ℤ). fin false 0 z) (sym (exponent e f))
of_zero (fin s (suc m) e) f h =
    let p : 0 < suc m = omega arith in
    absurd (not_none (suc m * up e * 1) (down e) _ (mul-pos (mul-pos p (up_pos e)) (lit< tt)) h)

pub of_below : (x : Float) → lt x none ≡ true → neg x ≡ absolute x
unfolding lt neg
of_below nan h = absurd (apart h)
of_below (inf true) h = refl
of_below (inf false) h = absurd (apart h)
of_below (fin true m e) h = refl
of_below (fin false m e) h = absurd (no_less (m * up e * 1) (down e) (ltb-true (m * up e * 1) (0 * down e) h))

pub of_above : (x : Float) → eq x none ≡ false → lt x none ≡ false → x ≡ absolute x
unfolding lt eq
of_above nan g h = refl
of_above (inf false) g h = refl
of_above (inf true) g h = absurd (apart (sym h))
of_above (fin false m e) g h = refl
of_above (fin true m e) g h = absurd (some-none (m * up e * 1) (down e) g h)
