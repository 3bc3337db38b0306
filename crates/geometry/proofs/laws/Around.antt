-- What differs from c by less than r, as the machine rounds the difference, is not below c - r and not above c + r, as it rounds those.
-- It holds of all finite values: where a bound overflows it is an infinity on the far side. Assumes nothing.
use Rattle.basics.specs.Words.{ℕ, suc, ◌+◌, ◌-◌, ◌*◌, ◌^◌, ◌≤◌, ◌<◌, ◌≡◌, refl, ap, ◌∙◌, false, ◌⊎◌, inl, inr, ⊎_elim, T, not_T, pos, zero-mul, arith}
use lib.Pow.{pow_pos}
use lib.Ieee.{Float, fin, Format, emax, low, add, sub, lt, le, fits}
use lib.Ieee.Scale.{finite}
use Rattle.basics.proofs.laws.Says.{d_le}
use Rattle.geometry.specs.Inner.Value.{Num}
use Rattle.geometry.proofs.laws.Value.{lt_num, le_num, either}
use Rattle.geometry.proofs.laws.Rounding.{R, R_mono, fixed}
use Rattle.geometry.proofs.laws.Sums.{add_num, sub_num}
use Rattle.geometry.proofs.laws.Back.{not-lt→le}

-- ---- the argument, of whole numbers: of a rounding that keeps the order, and leaves px and r as they are
module _ (R : ℕ → ℕ) (mono : (a b : ℕ) → a ≤ b → R a ≤ R b) (pp np pc nc pr nr : ℕ) (one : (pp ≡ 0) ⊎ (np ≡ 0)) (i : R pp ≡ pp) (j : R np ≡ np) (k : R pr ≡ pr) (z : nr ≡ 0)
    (near : R (pp + nc - (np + pc)) + R (np + pc - (pp + nc)) < pr + nr) where
  low-side : pp + R (nc + pr - (pc + nr)) < R (pc + nr - (nc + pr)) + np → ⊥
  low-side h =
      elim (d_le (pc + np + nr) (pp + nc + pr)) [
        | inl g ↦ omega (arith, mono (pc + nr - (nc + pr)) pp (⊎_elim (λ e. omega arith) (λ e. omega arith) one), mono np (nc + pr - (pc + nr)) (⊎_elim (λ e. omega arith) (λ e. omega arith) one))
        | inr g ↦ omega (arith, mono pr (np + pc - (pp + nc)) (omega arith))
      ]

  high-side : R (pc + pr - (nc + nr)) + np < pp + R (nc + nr - (pc + pr)) → ⊥
  high-side h =
      elim (d_le (pp + nc + nr) (pc + pr + np)) [
        | inl g ↦ omega (arith, mono pp (pc + pr - (nc + nr)) (⊎_elim (λ e. omega arith) (λ e. omega arith) one), mono (nc + nr - (pc + pr)) np (⊎_elim (λ e. omega arith) (λ e. omega arith) one))
        | inr g ↦ omega (arith, mono pr (pp + nc - (np + pc)) (omega arith))
      ]

module _ (f : Format) where
  -- a value that the format holds, and no infinity or NaN
  abbrev pub Plain : Float → Type 0
  Plain x = T (fits f x) × T (finite x)

  -- c - r ≤ x ≤ c + r
  abbrev pub Around : Float → Float → Float → Type 0
  Around x c r = T (le (sub f c r) x) × T (le x (add f c r))

  abbrev zero_f : Float
  zero_f = fin false 0 (pos 0)

  pub not_below-zero : (r : Float) (pr nr : ℕ) → Num f r pr nr → T (le zero_f r) → nr ≡ 0
  not_below-zero r pr nr v h =
      let i = le_num f zero_f r 0 0 pr nr (ap (λ (z : ℕ). z * 2 ^ low f) (zero-mul 1) ∙ zero-mul (2 ^ low f), refl, pow_pos (low f + suc (emax f))) v h in
      ⊎_elim (λ e. omega arith) (λ e. e) (either f r pr nr v)

  pub around : (x c r : Float) (pp np pc nc pr nr : ℕ) → Plain x → Plain c → Plain r → Num f x pp np → Num f c pc nc → Num f r pr nr → nr ≡ 0
      → R f (pp + nc - (np + pc)) + R f (np + pc - (pp + nc)) < pr + nr → Around x c r
  around x c r pp np pc nc pr nr fx fc fr vx vc vr z near =
      let kx = fixed f x pp np fx.0 fx.1 vx in
      let kr = fixed f r pr nr fr.0 fr.1 vr in
      let one = either f x pp np vx in
      let vl = sub_num f c r pc nc pr nr fc.1 fr.1 vc vr in
      let vh = add_num f c r pc nc pr nr fc.1 fr.1 vc vr in (
        not-lt→le f x (sub f c r) pp np _ _ vx vl
            (not_T (lt x (sub f c r)) (λ (t : T (lt x (sub f c r))).
            low-side (R f) (R_mono f) pp np pc nc pr nr one kx.0 kx.1 kr.0 z near (lt_num f x (sub f c r) pp np (R f (pc + nr - (nc + pr))) (R f (nc + pr - (pc + nr))) vx vl t))),
        not-lt→le f (add f c r) x _ _ pp np vh vx
            (not_T (lt (add f c r) x) (λ (t : T (lt (add f c r) x)).
            high-side (R f) (R_mono f) pp np pc nc pr nr one kx.0 kx.1 kr.0 z near (lt_num f (add f c r) x (R f (pc + pr - (nc + nr))) (R f (nc + nr - (pc + pr))) pp np vh vx t))),
      )
