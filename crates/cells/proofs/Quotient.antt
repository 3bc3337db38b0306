-- The machine's signed division by a cell size, and the subtraction of one. Assumes nothing.
use Rattle.basics.specs.Words.{ℕ, zero, suc, ◌/◌, ◌≤◌, ◌<◌, ◌≡◌, sym, ap, ◌∙◌, subst, Bool, true, false, cond, T, ltb→lt, lit<, ℤ, pos, negsuc, neg_ℤ, ◌-ℤ◌}
use Rattle.basics.specs.Words.{lt_of_le_of_lt, div-le_self, arith}
use lib.Signed.{mag, quot_z, ◌<ℤ◌}
use lib.Ieee.{Float, binary32, of_bits, lt}
use mir.Syntax.{w32}
use mir.Val.{SFits, to_z, of_z}
use mir.ValLaws.{to_z-of_z}
use Rattle.geometry.specs.Meaning.Domain.{within}
use Rattle.cells.specs.Meaning.CellRule.{whole_of, cell_of}
use Rattle.cells.proofs.laws.CellRuleLaws.{cell-small}

positive : (z : ℤ) → pos 0 <ℤ z → 0 < of_z w32 z
positive (pos n) h = ltb→lt 0 n h.lt
positive (negsuc n) h = absurd h.lt

mag_neg : (r : ℕ) {a : ℕ} → r ≤ suc a → mag (neg_ℤ (pos r)) ≤ a
mag_neg zero {a} h = omega arith
mag_neg (suc r) {a} h = omega arith

quot_mag : (w d : ℤ) → pos 0 <ℤ d → mag (quot_z w d) ≤ mag w
quot_mag w (negsuc n) h = absurd h.lt
quot_mag (pos a) (pos b) h = div-le_self a b
quot_mag (negsuc a) (pos b) h = mag_neg (suc a / b) (div-le_self (suc a) b)

module _ (w d : ℤ) (W : SFits w32 w) (D : SFits w32 d) (P : pos 0 <ℤ d) where
  same : quot_z (to_z w32 (of_z w32 w)) (to_z w32 (of_z w32 d)) ≡ quot_z w d
  same = ap (λ (z : ℤ). quot_z z (to_z w32 (of_z w32 d))) (to_z-of_z w32 w W) ∙ ap (quot_z w) (to_z-of_z w32 d D)

  quot_fits : SFits w32 (quot_z w d)
  quot_fits = record { sfits = lt_of_le_of_lt (quot_mag w d P) W.sfits }

  pub asks : (0 < of_z w32 d) × SFits w32 (quot_z (to_z w32 (of_z w32 w)) (to_z w32 (of_z w32 d)))
  asks = (positive d P, subst (λ (z : ℤ). SFits w32 z) (sym same) quot_fits)

  -- the machine's quotient, read back
  pub quotient : to_z w32 (of_z w32 (quot_z (to_z w32 (of_z w32 w)) (to_z w32 (of_z w32 d)))) ≡ quot_z w d
  quotient = ap (λ (z : ℤ). to_z w32 (of_z w32 z)) same ∙ to_z-of_z w32 (quot_z w d) quot_fits

-- ---- the rule on either side of zero
module _ (w d : ℤ) (x : Float) (e : w ≡ whole_of x) where
  pub cell-under : lt x (of_bits binary32 0) ≡ true → quot_z w d -ℤ pos 1 ≡ cell_of d x
  unfolding of_bits cell_of
  cell-under h = ap (λ (z : ℤ). quot_z z d -ℤ pos 1) e ∙ ap (λ (t : Bool). cond t (quot_z (whole_of x) d -ℤ pos 1) (quot_z (whole_of x) d)) (sym h)

  pub cell_over : lt x (of_bits binary32 0) ≡ false → quot_z w d ≡ cell_of d x
  unfolding of_bits cell_of
  cell_over h = ap (λ (z : ℤ). quot_z z d) e ∙ ap (λ (t : Bool). cond t (quot_z (whole_of x) d -ℤ pos 1) (quot_z (whole_of x) d)) (sym h)

cell-fits : (d : ℤ) (x : Float) → pos 0 <ℤ d → T (within 21 x) → SFits w32 (cell_of d x)
cell-fits (pos b) x P h = record { sfits = lt_of_le_of_lt (cell-small b x h) (lit< tt) }
cell-fits (negsuc n) x P h = absurd P.lt

pub under-fits : (w d : ℤ) (x : Float) → w ≡ whole_of x → pos 0 <ℤ d → T (within 21 x) → lt x (of_bits binary32 0) ≡ true → SFits w32 (quot_z w d -ℤ pos 1)
under-fits w d x e P b h = subst (λ (z : ℤ). SFits w32 z) (sym (cell-under w d x e h)) (cell-fits d x P b)
