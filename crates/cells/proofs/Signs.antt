-- Signed numbers as the machine works them out: -1 - (u - 1), a number counted from the least, a cell size. Assumes nothing.
use Rattle.basics.specs.Words.{ℕ, zero, suc, ◌-◌, ◌≤◌, ◌<◌, ◌^◌, ◌≡◌, refl, sym, ap, ◌∙◌, subst, Bool, true, false, cond, T, lt→ltb, ℤ, pos, negsuc, neg_ℤ, ◌+ℤ◌}
use Rattle.basics.specs.Words.{◌-ℤ◌, nat_abs, +ℤ_comm, -ℤ_one, arith, le-ltb, ltb-true, sfits_of}
use lib.Signed.{mag, non_neg, lt_z, ◌<ℤ◌, lt_z_yes}
use mir.Syntax.{w32, w64}
use mir.Val.{Fits, SFits, to_z, of_z, hbits}
use mir.ValLaws.{to_z_pos, to_z-of_z}
use Rattle.cells.specs.Meaning.Key.{upward}
use Rattle.cells.specs.Inner.Key.{downward}
use Rattle.cells.proofs.laws.KeyLaws.{upward_lt, downward-small}

-- a signed number is read back from its bits
pub back : {z : ℤ} → mag z < 2 ^ hbits w32 → to_z w32 (of_z w32 z) ≡ z
back {z} p = to_z-of_z w32 z (sfits_of p)

-- ---- -1 - (u - 1) is -u
minus_one_plus : (n : ℕ) → negsuc 0 +ℤ negsuc n ≡ negsuc (suc n)
minus_one_plus n = ap (λ (k : ℕ). negsuc (suc k)) (omega arith)

step_down : (k : ℕ) → negsuc 0 -ℤ pos k ≡ negsuc k
step_down zero = refl
step_down (suc n) = minus_one_plus n

module _ (u : ℕ) (lo : 0 < u) (hi : u ≤ 2147483648) where
  less : u - 1 < 2147483648
  less = omega arith

  is : negsuc 0 -ℤ to_z w32 (u - 1) ≡ negsuc (u - 1)
  is = ap (λ (z : ℤ). negsuc 0 -ℤ z) (to_z_pos w32 (u - 1) less) ∙ step_down (u - 1)

  pub one_less_fits : SFits w32 (pos (u - 1))
  one_less_fits = record { sfits = less }

  pub negated_fits : SFits w32 (negsuc 0 -ℤ to_z w32 (u - 1))
  negated_fits = subst (λ (z : ℤ). SFits w32 z) (sym is) (record { sfits = less })

  pub negated : to_z w32 (of_z w32 (negsuc 0 -ℤ to_z w32 (u - 1))) ≡ neg_ℤ (pos u)
  negated =
      let q : suc (u - 1) ≡ u = omega arith in
      to_z-of_z w32 (negsuc 0 -ℤ to_z w32 (u - 1)) negated_fits ∙ is ∙ ap (λ (k : ℕ). neg_ℤ (pos k)) q

-- ---- 64 bits that hold a number from 0 up
module _ (k : ℤ) (n : ℕ) (e : k ≡ pos n) (h : n < 2 ^ 63) where
  pub held : SFits w64 k
  held = subst (λ (z : ℤ). SFits w64 z) (sym e) (record { sfits = h })

  read : to_z w64 (of_z w64 k) ≡ pos n
  read = to_z-of_z w64 k held ∙ e

  pub cast : T (non_neg (to_z w64 (of_z w64 k))) × Fits w64 (nat_abs (to_z w64 (of_z w64 k)))
  cast = subst (λ (z : ℤ). T (non_neg z) × Fits w64 (nat_abs z)) (sym read) (tt, record { fits = omega arith })

  pub number : nat_abs (to_z w64 (of_z w64 k)) ≡ n
  number = ap nat_abs read

-- ---- a 32-bit number taken to 64 bits
module _ (z : ℤ) (h : SFits w32 z) where
  pub widens : SFits w64 (to_z w32 (of_z w32 z))
  widens = subst (λ (k : ℤ). SFits w64 k) (sym (to_z-of_z w32 z h)) (record { sfits = omega (arith, h.sfits) })

  pub wide : to_z w64 (of_z w64 (to_z w32 (of_z w32 z))) ≡ z
  wide = to_z-of_z w64 (to_z w32 (of_z w32 z)) widens ∙ to_z-of_z w32 z h

-- ---- counted from the least
raised : (z : ℤ) → mag z < 2147483648 → z +ℤ pos 2147483648 ≡ pos (upward z)
raised (pos n) h = refl
raised (negsuc n) h = ap (λ (b : Bool). cond b (negsuc (suc n - suc 2147483648)) (pos (2147483648 - suc n))) (le-ltb 2147483648 (suc n) (omega arith)) ∙ ap pos (omega arith)

pub raised_wide : (z : ℤ) → SFits w32 z → to_z w64 (of_z w64 (to_z w32 (of_z w32 z))) +ℤ pos 2147483648 ≡ pos (upward z)
raised_wide z h = ap (λ (k : ℤ). k +ℤ pos 2147483648) (wide z h) ∙ raised z h.sfits

pub upward-small : (z : ℤ) → SFits w32 z → upward z < 2 ^ 63
upward-small z h = omega (arith, upward_lt z h.sfits)

-- ---- the magnitude of a number, and of one below zero less one
below_mag : (z : ℤ) → lt_z z (pos 0) ≡ true → negsuc 0 -ℤ z ≡ pos (mag z)
below_mag (pos n) h = absurd (omega (arith, ltb-true n 0 h))
below_mag (negsuc n) h = +ℤ_comm (negsuc 0) (pos (suc n)) ∙ -ℤ_one (pos (suc n))

pub is_under : (z : ℤ) → lt_z z (pos 0) ≡ true → z ≡ negsuc (mag z)
is_under (pos n) h = absurd (omega (arith, ltb-true n 0 h))
is_under (negsuc n) h = refl

pub is_over : (z : ℤ) → lt_z z (pos 0) ≡ false → z ≡ pos (mag z)
is_over (pos n) h = refl
is_over (negsuc n) h = absurd (subst T h tt)

module _ (z : ℤ) (h : SFits w32 z) where
  pub under_mag : lt_z (to_z w64 (of_z w64 (to_z w32 (of_z w32 z)))) (pos 0) ≡ true → negsuc 0 -ℤ to_z w64 (of_z w64 (to_z w32 (of_z w32 z))) ≡ pos (mag z)
  under_mag e = ap (λ (k : ℤ). negsuc 0 -ℤ k) (wide z h) ∙ below_mag z (ap (λ (k : ℤ). lt_z k (pos 0)) (sym (wide z h)) ∙ e)

  pub over_mag : lt_z (to_z w64 (of_z w64 (to_z w32 (of_z w32 z)))) (pos 0) ≡ false → to_z w32 (of_z w32 z) ≡ pos (mag z)
  over_mag e = to_z-of_z w32 z h ∙ is_over z (ap (λ (k : ℤ). lt_z k (pos 0)) (sym (wide z h)) ∙ e)

  pub mag_small : mag z < 2 ^ 63
  mag_small = omega (arith, h.sfits)

-- ---- and back: n - 2 ^ 31
module _ (n : ℕ) (h : n < 4294967296) where
  lowered : to_z w64 n -ℤ pos 2147483648 ≡ downward n
  lowered = ap (λ (k : ℤ). k -ℤ pos 2147483648) (to_z_pos w64 n (omega arith))

  small : SFits w32 (downward n)
  small = record { sfits = downward-small n h }

  pub lowered_fits : SFits w64 (to_z w64 n -ℤ pos 2147483648)
  lowered_fits = subst (λ (k : ℤ). SFits w64 k) (sym lowered) (record { sfits = omega (arith, small.sfits) })

  lowered_read : to_z w64 (of_z w64 (to_z w64 n -ℤ pos 2147483648)) ≡ downward n
  lowered_read = to_z-of_z w64 (to_z w64 n -ℤ pos 2147483648) lowered_fits ∙ lowered

  pub lowered_small : SFits w32 (to_z w64 (of_z w64 (to_z w64 n -ℤ pos 2147483648)))
  lowered_small = subst (λ (k : ℤ). SFits w32 k) (sym lowered_read) small

  pub lowered_is : to_z w32 (of_z w32 (to_z w64 (of_z w64 (to_z w64 n -ℤ pos 2147483648)))) ≡ downward n
  lowered_is = to_z-of_z w32 (to_z w64 (of_z w64 (to_z w64 n -ℤ pos 2147483648))) lowered_small ∙ lowered_read

-- ---- a cell size as a signed number
pub size_is : (n : ℕ) → n ≤ 1048576 → to_z w32 n ≡ pos n
size_is n h = to_z_pos w32 n (omega arith)

pub size-some : (n : ℕ) → 1 ≤ n → n ≤ 1048576 → pos 0 <ℤ to_z w32 n
size-some n l h = subst (λ (z : ℤ). pos 0 <ℤ z) (sym (size_is n h)) (lt_z_yes (lt→ltb 0 n (omega arith)))
