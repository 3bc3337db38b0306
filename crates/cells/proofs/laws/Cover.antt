-- No found point lies outside the searched range: the cell of a point that the circle test finds, or that a rectangle holds, is a cell
-- of the range that is searched, for every cell size. Assumes nothing.
use Rattle.basics.specs.Words.{ℕ, ◌≤◌, ◌≡◌, true, ◌&&◌, T, pos}
use lib.Signed.{le_z}
use lib.Ieee.{Float, le}
use Rattle.basics.proofs.laws.Says.{says_t, and_true}
use Rattle.geometry.specs.declared.Position.{Position}
use Rattle.geometry.specs.Meaning.Domain.{position_in_domain, radius_in_domain}
use Rattle.geometry.specs.Meaning.Circle.{in_circle, corner_below, corner_above}
use Rattle.geometry.proofs.laws.CircleLaws.{found_in_range}
use Rattle.geometry.specs.Meaning.Rectangle.{lower_corner, upper_corner, in_rectangle}
use Rattle.geometry.proofs.laws.RectangleLaws.{rectangle_between}
use Rattle.cells.specs.Meaning.CellRule.{cell_of, cell_at}
use Rattle.cells.proofs.laws.CellRuleLaws.{mono}
use Rattle.cells.proofs.laws.Range.{in_range}

module _ (size : ℕ) (some : 1 ≤ size) where
  axis : (lo x hi : Float) → T (le lo x) → T (le x hi) → (le_z (cell_of (pos size) lo) (cell_of (pos size) x) && le_z (cell_of (pos size) x) (cell_of (pos size) hi)) ≡ true
  axis lo x hi h k =
      let c = cell_of (pos size) in
      and_true ((says_t (le_z (c lo) (c x))).no (mono size some lo x h)) ((says_t (le_z (c x) (c hi))).no (mono size some x hi k))

  corners : (p ll ur : Position) → T (le ll.x p.x) → T (le p.x ur.x) → T (le ll.y p.y) → T (le p.y ur.y)
      → in_range (cell_at size ll) (cell_at size ur) (cell_at size p) ≡ true
  unfolding in_range
  corners p ll ur a b c d = and_true (axis ll.x p.x ur.x a b) (axis ll.y p.y ur.y c d)

  -- a position between two corners has a cell of the range from corner to corner
  pub between_cover : (p ll ur : Position) → in_rectangle p ll ur ≡ true → in_range (cell_at size ll) (cell_at size ur) (cell_at size p) ≡ true
  between_cover p ll ur e =
      let (a, b) = rectangle_between p ll ur ((says_t _).yes e) in
      corners p ll ur a.0 b.0 a.1 b.1

  -- the rectangle of two corners in any order, edges included
  pub rectangle_cover : (p a b : Position) → in_rectangle p (lower_corner a b) (upper_corner a b) ≡ true
      → in_range (cell_at size (lower_corner a b)) (cell_at size (upper_corner a b)) (cell_at size p) ≡ true
  rectangle_cover p a b e = between_cover p (lower_corner a b) (upper_corner a b) e

  pub circle_cover : (p centre : Position) (r : Float) → T (position_in_domain p) → T (position_in_domain centre) → T (radius_in_domain r)
      → in_circle p centre r ≡ true → in_range (cell_at size (corner_below centre r)) (cell_at size (corner_above centre r)) (cell_at size p) ≡ true
  circle_cover p centre r hp hc hr e =
      let (x, y) = found_in_range p centre r hp hc hr ((says_t _).yes e) in
      corners p (corner_below centre r) (corner_above centre r) x.0 x.1 y.0 y.1
