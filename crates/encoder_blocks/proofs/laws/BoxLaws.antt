-- The box of a block: it is in the domain, and at size 16 it goes from cell (i, j) to cell (i + 1, j + 1). Assumes nothing.
use Rattle.basics.specs.Words.{ℕ, zero, suc, ◌≤◌, ◌<◌, ◌≡◌, refl, sym, ap, ◌∙◌, subst, Bool, true, ◌&&◌, inl, inr, T, pos, arith}
use lib.Ieee.{of_int, lt, le, eq, fits}
use lib.Ieee.Fits.{and_i, and_l, and_r}
use Rattle.basics.proofs.laws.Says.{both_true, says_t, d_lt}
use Rattle.geometry.proofs.laws.Back.{or_l}
use Rattle.geometry.specs.Meaning.Domain.{in_domain, position_in_domain, aabb_in_domain}
use Rattle.cells.specs.Meaning.CellRule.{cell_of, cell_at}
use Rattle.cells.proofs.laws.Numbers.{cell_ext}
use Rattle.encoder_blocks.specs.Meaning.Blocks.{side, columns, begins, block_box}
use Rattle.encoder_blocks.specs.Inner.Places.{cell}
use Rattle.encoder_blocks.proofs.laws.BlockLaws.{axis}

-- a test of every number below n
abbrev every_below : (ℕ → Bool) → ℕ → Bool
every_below test zero = true
every_below test (suc n) = test n && every_below test n

every_at : (test : ℕ → Bool) (n k : ℕ) → every_below test n ≡ true → k < n → test k ≡ true
every_at test zero k e h = absurd (omega arith)
every_at test (suc n) k e h =
    let (here, before) = both_true (test n) (every_below test n) e in
    elim (d_lt k n) [ inl l ↦ every_at test n k before l | inr l ↦ let q : k ≡ n = omega arith in ap test q ∙ here ]

-- where a column begins: in the domain, and before the next one
abbrev steps : ℕ → Bool
steps n = in_domain (begins n) && (le (begins n) (begins n) && lt (begins n) (begins (suc n)))

steps_all : every_below steps 81 ≡ true
unfolding of_int le lt eq fits
steps_all = refl

module _ (n : ℕ) (h : n ≤ columns) where
  step : T (steps n)
  step = subst T (sym (every_at steps 81 n steps_all (omega arith))) tt

  begins_in : T (in_domain (begins n))
  begins_in = and_l (in_domain (begins n)) (le (begins n) (begins n) && lt (begins n) (begins (suc n))) step

  begins-before : T (lt (begins n) (begins (suc n)))
  begins-before =
      and_r (le (begins n) (begins n)) (lt (begins n) (begins (suc n)))
      (and_r (in_domain (begins n)) (le (begins n) (begins n) && lt (begins n) (begins (suc n))) step)

  begins-le : T (le (begins n) (begins (suc n)))
  unfolding le
  begins-le = or_l (lt (begins n) (begins (suc n))) (eq (begins n) (begins (suc n))) begins-before

  -- column n begins in cell n
  begins-cell : cell_of (pos side) (begins n) ≡ pos n
  begins-cell =
      (axis n h (begins n) begins_in).yes
      ((says_t (le (begins n) (begins n) && lt (begins n) (begins (suc n)))).no
      (and_r (in_domain (begins n)) (le (begins n) (begins n) && lt (begins n) (begins (suc n))) step))

module _ (i j : ℕ) (hi : i < columns) (hj : j < columns) where
  pub block_in_domain : T (aabb_in_domain (block_box i j))
  block_in_domain =
      and_i (position_in_domain (block_box i j).ll && position_in_domain (block_box i j).ur) (le (begins i) (begins (suc i)) && le (begins j) (begins (suc j)))
      (and_i (position_in_domain (block_box i j).ll) (position_in_domain (block_box i j).ur)
      (and_i (in_domain (begins i)) (in_domain (begins j)) (begins_in i (omega arith)) (begins_in j (omega arith)))
      (and_i (in_domain (begins (suc i))) (in_domain (begins (suc j))) (begins_in (suc i) (omega arith)) (begins_in (suc j) (omega arith))))
      (and_i (le (begins i) (begins (suc i))) (le (begins j) (begins (suc j))) (begins-le i (omega arith)) (begins-le j (omega arith)))

  pub block_low : cell_at side (block_box i j).ll ≡ cell i j
  block_low = cell_ext (begins-cell i (omega arith)) (begins-cell j (omega arith))

  pub block_high : cell_at side (block_box i j).ur ≡ cell (suc i) (suc j)
  block_high = cell_ext (begins-cell (suc i) (omega arith)) (begins-cell (suc j) (omega arith))
