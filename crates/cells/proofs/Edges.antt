-- Comparisons with the edges of a cell, as code makes them. Assumes nothing.
use Rattle.basics.specs.Words.{ℕ, suc, ◌+◌, ◌*◌, ◌≤◌, ◌<◌, ◌^◌, ◌≡◌, sym, ap, ◌∙◌, subst, Bool, true, false, ◌&&◌, T, lit<, ℤ, pos, le_of_lt, lt_of_le_of_lt}
use Rattle.basics.specs.Words.{mul-le-mul, suc-mul, arith}
use lib.Signed.{mag, lt_z}
use lib.Ieee.{Float, fin, binary32, of_int, of_bits, neg, lt, le}
use mir.Syntax.{w32, w64}
use mir.Val.{Fits, SFits, to_z, of_z}
use mir.ValLaws.{to_z-of_z}
use Rattle.basics.specs.Meaning.Says.{Says}
use Rattle.geometry.specs.Meaning.Domain.{in_domain}
use Rattle.geometry.proofs.laws.DomainLaws.{domain_fits, domain_finite}
use Rattle.geometry.proofs.laws.Rounding.{number}
use Rattle.cells.specs.Meaning.CellRule.{cell_of}
use Rattle.cells.specs.Meaning.Size.{SizeInDomain}
use Rattle.cells.proofs.laws.ReachLaws.{domain_reached}
use Rattle.cells.proofs.laws.EdgeLaws.{over_says, under_says}
use Rattle.cells.proofs.laws.EdgeRule.{near_num, far_num, nought_num, room}
use Rattle.cells.proofs.Signs.{is_under, is_over}

-- ---- k edges lie between a cell and zero, and the one next to zero is k sizes away
module _ (z : ℤ) (h : SFits w32 z) (k s : ℕ) (e : k ≡ mag (to_z w32 (of_z w32 z))) where
  pub near_is : k * s ≡ mag z * s
  near_is = ap (λ (n : ℕ). n * s) (e ∙ ap mag (to_z-of_z w32 z h))

  pub near_fits : s ≤ 1048576 → Fits w64 (k * s)
  near_fits g = record { fits = subst (λ (n : ℕ). n < 2 ^ 64) (sym near_is) (lt_of_le_of_lt (mul-le-mul (le_of_lt h.sfits) g) (lit< tt)) }

-- the sign of a number that was read
pub read_sign : (z : ℤ) (b : Bool) → SFits w32 z → lt_z (to_z w32 (of_z w32 z)) (pos 0) ≡ b → lt_z z (pos 0) ≡ b
read_sign z b h e = ap (λ (k : ℤ). lt_z k (pos 0)) (sym (to_z-of_z w32 z h)) ∙ e

-- ---- a coordinate of the domain, the edges low and high of the cells k from zero
module _ (s : ℕ) (S : SizeInDomain s) (x : Float) (D : T (in_domain x)) (c : ℤ) (low high : Float) (h : mag c * s ≤ 1048576) (e : low ≡ of_int binary32 (pos (mag c * s))) (g : high ≡ of_int binary32 (pos (mag c * s + s))) where
  B : 0 < s
  B = omega (arith, S.0)

  high_is : of_int binary32 (pos (suc (mag c) * s)) ≡ high
  high_is = ap (λ (n : ℕ). of_int binary32 (pos n)) (suc-mul (mag c) s) ∙ sym g

  pub over_edges : lt_z c (pos 0) ≡ false → Says (le low x && lt x high) (cell_of (pos s) x ≡ c)
  over_edges z =
      let v = number binary32 x (domain_fits x D) (domain_finite x D) in
      subst (λ (k : ℤ). Says (le low x && lt x high) (cell_of (pos s) x ≡ k)) (sym (is_over c z))
      (over_says binary32 s B x v.0 v.1 v.2 room (domain_reached x D) (mag c) low high (rw e (near_num s (mag c) S h)) (rw (← high_is) (far_num s (mag c) S h)))

  pub under_edges : lt_z c (pos 0) ≡ true → Says ((le low (neg x) && lt (neg x) high) && lt (of_bits binary32 0) (neg x)) (cell_of (pos s) x ≡ c)
  unfolding of_bits
  under_edges z =
      let v = number binary32 x (domain_fits x D) (domain_finite x D) in
      subst (λ (k : ℤ). Says ((le low (neg x) && lt (neg x) high) && lt (fin false 0 (pos 0)) (neg x)) (cell_of (pos s) x ≡ k)) (sym (is_under c z))
      (under_says binary32 s B x v.0 v.1 v.2 room (domain_reached x D) (mag c) low high (rw e (near_num s (mag c) S h)) (rw (← high_is) (far_num s (mag c) S h)) (fin false 0 (pos 0)) nought_num)
