-- The gap before a ring, as code works it out: sums of signed numbers that fit 32 bits, and edges that are exact. Assumes nothing.
use Rattle.basics.specs.Words.{ℕ, zero, suc, ◌+◌, ◌*◌, ◌≤◌, ◌<◌, ◌≡◌, sym, ap, ap₂, ◌∙◌, subst, T, ℤ, pos, negsuc, ◌+ℤ◌, ◌-ℤ◌, le_refl}
use Rattle.basics.specs.Words.{mul-le-mul, mul-le-mul_right, arith, lt-ltb, sfits_of}
use lib.Signed.{mag}
use lib.Ieee.{Float, binary32, sub}
use mir.Syntax.{w32}
use mir.Val.{SFits, to_z, of_z}
use mir.Facts.{to_z-of_z, to_z_pos}
use Rattle.geometry.specs.declared.Position.{Position}
use Rattle.geometry.specs.Meaning.Domain.{in_domain, position_in_domain}
use Rattle.geometry.specs.Meaning.Rectangle.{lesser}
use Rattle.geometry.proofs.laws.DomainLaws.{position_parts}
use Rattle.cells.specs.declared.Cell.{Cell}
use Rattle.cells.specs.Meaning.Size.{SizeInDomain}
use Rattle.cells.specs.Meaning.CellRule.{cell_of, cell_at}
use Rattle.cells.specs.Inner.Edge.{edge}
use Rattle.cells.proofs.laws.EdgeRule.{reaches}
use Rattle.point_rings.specs.Inner.Rings.{most_rings, axis_gap, gap_of}
use Rattle.point_rings.proofs.laws.CellNumbers.{up-cell, down_cell}

-- ---- on one axis: k is a cell whose edge next to zero is in the domain
narrow : (m s : ℕ) → 1 ≤ s → m * s ≤ 1048576 → m ≤ 1048576
narrow m s h g = omega (arith, mul-le-mul (le_refl m) h)

-- one less is at most one farther from zero
one_less : (z : ℤ) → mag z ≤ mag (z +ℤ pos 1) + 1
one_less (pos n) = omega arith
one_less (negsuc zero) = omega arith
one_less (negsuc (suc n)) = rw (lt-ltb 1 (suc (suc n)) (omega arith)) (omega arith)

module _ (size : ℕ) (S : SizeInDomain size) (k : ℤ) (near : mag k * size ≤ 1048576) where
  small : mag k ≤ 1048576
  small = narrow (mag k) size S.0 near

  pub same : to_z w32 (of_z w32 k) ≡ k
  same = to_z-of_z {w = w32} {z = k} (sfits_of (omega (arith, small)))

  -- up to eleven cells farther from zero an edge is exact
  exact : (z : ℤ) → mag z ≤ mag k + 11 → (0 < size) × (mag z * size + size ≤ 16777216)
  exact z h = (S.0, omega (arith, S.1, near, mul-le-mul_right size h))

  module _ (d : ℕ) (most : d ≤ most_rings) where
    number : to_z w32 d ≡ pos d
    number = to_z_pos w32 (omega arith)

    -- the cell that is d higher
    sum : to_z w32 (of_z w32 k) +ℤ to_z w32 d ≡ k +ℤ pos d
    sum = ap₂ ◌+ℤ◌ same number

    above-small : mag (k +ℤ pos d) ≤ mag k + 11
    above-small = (up-cell k (omega (arith, small)) d most).1

    pub above-fits : SFits w32 (to_z w32 (of_z w32 k) +ℤ to_z w32 d)
    above-fits = subst (SFits w32) (sym sum) (sfits_of (omega (arith, above-small, small)))

    above_is : to_z w32 (of_z w32 (to_z w32 (of_z w32 k) +ℤ to_z w32 d)) ≡ k +ℤ pos d
    above_is = to_z-of_z above-fits ∙ sum

    pub above_exact : (0 < size) × (mag (to_z w32 (of_z w32 (to_z w32 (of_z w32 k) +ℤ to_z w32 d))) * size + size ≤ 16777216)
    above_exact = rw above_is (exact (k +ℤ pos d) above-small)

    -- the cell that is d - 1 lower
    difference : to_z w32 (of_z w32 k) -ℤ to_z w32 d ≡ k -ℤ pos d
    difference = ap₂ ◌-ℤ◌ same number

    below-small : mag (k -ℤ pos d +ℤ pos 1) ≤ mag k + 11
    below-small = (down_cell k (omega (arith, small)) d most).1

    down_small : mag (k -ℤ pos d) ≤ mag k + 12
    down_small = omega (arith, one_less (k -ℤ pos d), below-small)

    pub down_fits : SFits w32 (to_z w32 (of_z w32 k) -ℤ to_z w32 d)
    down_fits = subst (SFits w32) (sym difference) (sfits_of (omega (arith, down_small, small)))

    less : to_z w32 (of_z w32 (to_z w32 (of_z w32 k) -ℤ to_z w32 d)) +ℤ pos 1 ≡ k -ℤ pos d +ℤ pos 1
    less = ap (λ (z : ℤ). z +ℤ pos 1) (to_z-of_z down_fits ∙ difference)

    pub below-fits : SFits w32 (to_z w32 (of_z w32 (to_z w32 (of_z w32 k) -ℤ to_z w32 d)) +ℤ pos 1)
    below-fits = subst (SFits w32) (sym less) (sfits_of (omega (arith, below-small, small)))

    below_is : to_z w32 (of_z w32 (to_z w32 (of_z w32 (to_z w32 (of_z w32 k) -ℤ to_z w32 d)) +ℤ pos 1)) ≡ k -ℤ pos d +ℤ pos 1
    below_is = to_z-of_z below-fits ∙ less

    pub below_exact : (0 < size) × (mag (to_z w32 (of_z w32 (to_z w32 (of_z w32 (to_z w32 (of_z w32 k) -ℤ to_z w32 d)) +ℤ pos 1))) * size + size ≤ 16777216)
    below_exact = rw below_is (exact (k -ℤ pos d +ℤ pos 1) below-small)

    -- the lesser of the two differences
    pub axis_is : (r a b x : Float)
        → r ≡ lesser (sub binary32 a x) (sub binary32 x b)
        → a ≡ edge size (to_z w32 (of_z w32 (to_z w32 (of_z w32 k) +ℤ to_z w32 d)))
        → b ≡ edge size (to_z w32 (of_z w32 (to_z w32 (of_z w32 (to_z w32 (of_z w32 k) -ℤ to_z w32 d)) +ℤ pos 1)))
        → r ≡ axis_gap size k x d
    axis_is r a b x e h g = e ∙ ap₂ (λ (s t : Float). lesser (sub binary32 s x) (sub binary32 x t)) (h ∙ ap (edge size) above_is) (g ∙ ap (edge size) below_is)

-- ---- on both axes: the cell of a position of the domain
module _ (size : ℕ) (S : SizeInDomain size) (x : Float) (D : T (in_domain x)) (k : ℤ) (e : k ≡ cell_of (pos size) x) where
  near-zero : mag k * size ≤ 1048576
  near-zero = reaches size S x D k (sym e)

  coordinate_near : mag (to_z w32 (of_z w32 k)) * size ≤ 1048576
  coordinate_near = rw (same size S k near-zero) near-zero

  coordinate_gap : (d : ℕ) (r : Float) → r ≡ axis_gap size (to_z w32 (of_z w32 k)) x d → r ≡ axis_gap size (cell_of (pos size) x) x d
  coordinate_gap d r h = h ∙ ap (λ (z : ℤ). axis_gap size z x d) (same size S k near-zero ∙ e)

module _ (size : ℕ) (S : SizeInDomain size) (c : Position) (D : T (position_in_domain c)) (mid : Cell) (e : mid ≡ cell_at size c) where
  column : mid.x ≡ cell_of (pos size) c.x
  column = ap (λ (z : Cell). z.x) e

  line : mid.y ≡ cell_of (pos size) c.y
  line = ap (λ (z : Cell). z.y) e

  pub column_near : mag (to_z w32 (of_z w32 mid.x)) * size ≤ 1048576
  column_near = coordinate_near size S c.x (position_parts c D).0 mid.x column

  pub line_near : mag (to_z w32 (of_z w32 mid.y)) * size ≤ 1048576
  line_near = coordinate_near size S c.y (position_parts c D).1 mid.y line

  pub gap_is : (d : ℕ) (r a b : Float)
      → r ≡ lesser a b
      → a ≡ axis_gap size (to_z w32 (of_z w32 mid.x)) c.x d
      → b ≡ axis_gap size (to_z w32 (of_z w32 mid.y)) c.y d
      → r ≡ gap_of size c d
  unfolding gap_of
  gap_is d r a b h f g = h ∙ ap₂ lesser (coordinate_gap size S c.x (position_parts c D).0 mid.x column d a f) (coordinate_gap size S c.y (position_parts c D).1 mid.y line d b g)
