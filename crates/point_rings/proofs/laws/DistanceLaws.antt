-- The squared distance of two positions of the domain by its number: it is finite, and at least the square of the difference on each axis.
-- Assumes nothing.
use Rattle.basics.specs.Words.{ℕ, ◌+◌, ◌-◌, ◌≤◌, ◌<◌, ◌≡◌, sym, ap, ◌∙◌, false, ◌⊎◌, ⊎_elim, T, lit<, lit≤, pos, le_of_eq, le_trans, lt_of_le_of_lt, arith}
use lib.Ieee.{Float, fin, binary32, sub, add, mul, size}
use lib.Ieee.Scale.{finite, overflow}
use lib.Ieee.Fits.{mul-fits}
use Rattle.geometry.specs.Meaning.Domain.{in_domain, within, position_in_domain}
use Rattle.geometry.specs.Inner.Value.{Num}
use Rattle.geometry.specs.declared.Position.{Position}
use Rattle.geometry.specs.Meaning.Circle.{distance_squared}
use Rattle.geometry.proofs.laws.DomainLaws.{domain_fits, domain_finite, position_parts, low-within}
use Rattle.geometry.proofs.laws.Value.{cast, either}
use Rattle.geometry.proofs.laws.Rounding.{R, R_mono, R_zero, number, fixed}
use Rattle.geometry.proofs.laws.Sums.{sub_num, add_num, sq_num, square, square_mono}
use Rattle.geometry.proofs.laws.WithinLaws.{at, power, bounds, within_finite}
use Rattle.cells.proofs.laws.EdgeRule.{room}
use Rattle.point_rings.proofs.laws.CellNumbers.{small_finite}

-- of the two parts of a number one is 0
one_part : (p n t : ℕ) → (p ≡ 0) ⊎ (n ≡ 0) → p ≤ t → n ≤ t → p + n ≤ t
one_part p n t o h g = ⊎_elim (λ e. omega arith) (λ e. omega arith) o

module _ (n m : ℕ) where
  more_left : n ≤ n + m
  more_left = omega arith

  more-right : m ≤ n + m
  more-right = omega arith

-- a sum of two that are not negative
sum_num : (x y : Float) (n m : ℕ) → T (finite x) → T (finite y) → Num binary32 x n 0 → Num binary32 y m 0 → Num binary32 (add binary32 x y) (R binary32 (n + m)) 0
sum_num x y n m f g v w =
    cast binary32 (add binary32 x y) _ _ (R binary32 (n + m)) 0 (add_num binary32 x y n 0 m 0 f g v w) (ap (R binary32) (parts n m).0) (ap (R binary32) (parts n m).1 ∙ R_zero binary32)
  where
    parts : (n m : ℕ) → (n + m - (0 + 0) ≡ n + m) × (0 + 0 - (n + m) ≡ 0)
    parts n m = omega arith

-- the square of 2 ^ 21 does not overflow
square-room : square binary32 (fin false 1 (pos 21)) < overflow binary32
unfolding size
square-room = lit< tt

-- coordinates of the domain differ by at most 2 ^ 21
module _ (x y : Float) (dx : T (in_domain x)) (dy : T (in_domain y)) where
  differs : T (within 21 (sub binary32 x y))
  differs = low-within x y dx dy

  differ_finite : T (finite (sub binary32 x y))
  differ_finite = within_finite 21 (sub binary32 x y) differs

  differ_square : T (finite (mul binary32 (sub binary32 x y) (sub binary32 x y)))
  differ_square =
      let z = sub binary32 x y in
      let (p, n, v) = number binary32 x (domain_fits x dx) (domain_finite x dx) in
      let (q, k, w) = number binary32 y (domain_fits y dy) (domain_finite y dy) in
      let u = sub_num binary32 x y p n q k (domain_finite x dx) (domain_finite y dy) v w in
      let b = bounds binary32 21 z _ _ room u differs in
      let m = square_mono binary32 z (fin false 1 (pos 21)) _ _ (at binary32 21) 0 differ_finite tt u (power binary32 21 room) (le_trans (one_part _ _ (at binary32 21) (either binary32 z _ _ u) b.0 b.1) (lit≤ tt)) in
      small_finite (mul binary32 z z) (square binary32 z) 0 (sq_num binary32 z differ_finite) (lt_of_le_of_lt m square-room) (lit< tt)

module _ (p c : Position) (dp : T (position_in_domain p)) (dc : T (position_in_domain c)) where
  abbrev off_x : Float
  off_x = sub binary32 p.x c.x

  abbrev off_y : Float
  off_y = sub binary32 p.y c.y

  pub finite_x : T (finite off_x)
  finite_x = differ_finite p.x c.x (position_parts p dp).0 (position_parts c dc).0

  pub finite_y : T (finite off_y)
  finite_y = differ_finite p.y c.y (position_parts p dp).1 (position_parts c dc).1

  square-x : T (finite (mul binary32 off_x off_x))
  square-x = differ_square p.x c.x (position_parts p dp).0 (position_parts c dc).0

  square-y : T (finite (mul binary32 off_y off_y))
  square-y = differ_square p.y c.y (position_parts p dp).1 (position_parts c dc).1

  -- the number of the squared distance
  abbrev pub far : ℕ
  far = R binary32 (square binary32 off_x + square binary32 off_y)

  pub far_num : Num binary32 (distance_squared p c) far 0
  unfolding distance_squared
  far_num = sum_num (mul binary32 off_x off_x) (mul binary32 off_y off_y) (square binary32 off_x) (square binary32 off_y) square-x square-y (sq_num binary32 off_x finite_x) (sq_num binary32 off_y finite_y)

  -- rounding leaves a square as it is, so the rounded sum is at least that
  pub from_x : square binary32 off_x ≤ far
  from_x =
      le_trans (le_of_eq (sym (fixed binary32 (mul binary32 off_x off_x) (square binary32 off_x) 0 (mul-fits binary32 off_x off_x) square-x (sq_num binary32 off_x finite_x)).0))
      (R_mono binary32 (square binary32 off_x) _ (more_left (square binary32 off_x) (square binary32 off_y)))

  pub from_y : square binary32 off_y ≤ far
  from_y =
      le_trans (le_of_eq (sym (fixed binary32 (mul binary32 off_y off_y) (square binary32 off_y) 0 (mul-fits binary32 off_y off_y) square-y (sq_num binary32 off_y finite_y)).0))
      (R_mono binary32 (square binary32 off_y) _ (more-right (square binary32 off_x) (square binary32 off_y)))
