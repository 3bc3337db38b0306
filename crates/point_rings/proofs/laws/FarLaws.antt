-- Squared distances by their numbers, and that no point of a ring is nearer than the gap before it. Assumes nothing.
use Rattle.basics.specs.Words.{ℕ, ◌+◌, ◌≤◌, ◌<◌, min, max, ◌≡◌, refl, ◌∙◌, true, false, Bool, ◌⊎◌, inl, inr, T, lit<, leb, ltb, eqb, ltb→lt, lt→ltb, leb→le}
use Rattle.basics.specs.Words.{le→leb, le_trans, lt_of_le_of_lt, arith, le-ltb, leb-true, leb-false, eqb-true, eq-eqb}
use lib.Ieee.{Float, binary32, sub, lt, le, eq, mul}
use lib.Ieee.Scale.{finite}
use Rattle.basics.proofs.laws.Says.{d_le, says_same, says_via, says_t}
use Rattle.basics.specs.Meaning.Says.{Says}
use Rattle.geometry.specs.Meaning.Domain.{in_domain, position_in_domain, radius_in_domain}
use Rattle.geometry.specs.Inner.Value.{Num}
use Rattle.geometry.specs.declared.Position.{Position}
use Rattle.geometry.specs.Meaning.Rectangle.{lesser}
use Rattle.geometry.specs.Meaning.Circle.{distance_squared}
use Rattle.geometry.proofs.laws.DomainLaws.{domain_finite, position_parts, radius_in_domain_lem}
use Rattle.geometry.proofs.laws.Value.{cast, or_cases, lt_num, eq_num, le_num}
use Rattle.geometry.proofs.laws.Sums.{sq_num, square, square_mono}
use Rattle.geometry.proofs.laws.Back.{num_le, num_lt}
use Rattle.cells.specs.Meaning.Size.{SizeInDomain}
use Rattle.cells.specs.Meaning.CellRule.{cell_at}
use Rattle.point_rings.specs.Inner.Rings.{most_rings, ring_of, gap_of}
use Rattle.point_rings.proofs.laws.AxisLaws.{top, above, under, above_top, above_num, under_num, axis_far}
use Rattle.point_rings.proofs.laws.CellNumbers.{small_finite}
use Rattle.point_rings.proofs.laws.DistanceLaws.{finite_x, finite_y, far, far_num, from_x, from_y}

-- ---- a number that is not negative, in units of the least
abbrev pub Ground : Float → ℕ → Type 0
Ground x n = Num binary32 x n 0

module _ (x y : Float) (n m : ℕ) (gx : Ground x n) (gy : Ground y m) where
  lt_says : Says (lt x y) (n < m)
  lt_says = says_via (λ t. omega (arith, lt_num binary32 x y n 0 m 0 gx gy t)) (λ h. num_lt binary32 x y n 0 m 0 gx gy (omega arith)) (says_t (lt x y))

  le_says : Says (le x y) (n ≤ m)
  le_says = says_via (λ t. omega (arith, le_num binary32 x y n 0 m 0 gx gy t)) (λ h. num_le binary32 x y n 0 m 0 gx gy (omega arith)) (says_t (le x y))

  same_eq : n ≡ m → T (eq x y)
  unfolding le
  same_eq h = elim (or_cases (lt x y) (eq x y) (num_le binary32 x y n 0 m 0 gx gy (omega arith))) [ inl t ↦ absurd (omega (arith, lt_num binary32 x y n 0 m 0 gx gy t)) | inr t ↦ t ]

  eq_says : Says (eq x y) (n ≡ m)
  eq_says = says_via (λ t. omega (arith, eq_num binary32 x y n 0 m 0 gx gy t)) same_eq (says_t (eq x y))

  pub ground_lt : lt x y ≡ ltb n m
  ground_lt = says_same (lt x y) (ltb n m) lt_says (says_via (ltb→lt n m) (lt→ltb n m) (says_t (ltb n m)))

  pub ground_le : le x y ≡ leb n m
  ground_le = says_same (le x y) (leb n m) le_says (says_via (leb→le n m) (le→leb n m) (says_t (leb n m)))

  pub ground_eq : eq x y ≡ eqb n m
  ground_eq = says_same (eq x y) (eqb n m) eq_says (record { yes = eqb-true n m; no = eq-eqb n m })

pub ground_distance : (p c : Position) → T (position_in_domain p) → T (position_in_domain c) → (n : ℕ) × Ground (distance_squared p c) n
ground_distance p c dp dc = (far p c dp dc, far_num p c dp dc)

pub ground_radius : (r : Float) → T (radius_in_domain r) → (n : ℕ) × Ground (mul binary32 r r) n
ground_radius r d = (square binary32 r, sq_num binary32 r (domain_finite r (radius_in_domain_lem r d)))

-- ---- the least of four
lesser_num : (x y : Float) (n m : ℕ) → Ground x n → Ground y m → Ground (lesser x y) (min n m)
lesser_num x y n m v w = go (leb n m) refl (ground_le x y n m v w)
  where
    go : (b : Bool) → leb n m ≡ b → le x y ≡ b → Ground (lesser x y) (min n m)
    go true e g = rw g (cast binary32 x n 0 (min n m) 0 v (omega (arith, leb-true n m e)) refl)
    go false e g = rw g (cast binary32 y m 0 (min n m) 0 w (omega (arith, leb-false n m e)) refl)

module _ (i j k l : ℕ) where
  least-x : min (min i j) (min k l) + 0 ≤ min i j
  least-x = omega arith

  least-y : min (min i j) (min k l) + 0 ≤ min k l
  least-y = omega arith

  least_top : (t : ℕ) → i ≤ t → min (min i j) (min k l) ≤ t
  least_top t h = omega arith

either_axis : (d m n : ℕ) → d ≤ max m n → (d ≤ m) ⊎ (d ≤ n)
either_axis d m n h = elim (d_le d m) [ inl g ↦ inl g | inr g ↦ inr (omega arith) ]

module _ (size : ℕ) (S : SizeInDomain size) (c : Position) (dc : T (position_in_domain c)) (d : ℕ) (some : 1 ≤ d) (most : d ≤ most_rings) where
  abbrev cx : T (in_domain c.x)
  cx = (position_parts c dc).0

  abbrev cy : T (in_domain c.y)
  cy = (position_parts c dc).1

  abbrev i : ℕ
  i = above size S c.x cx d some most

  abbrev j : ℕ
  j = under size S c.x cx d some most

  abbrev k : ℕ
  k = above size S c.y cy d some most

  abbrev l : ℕ
  l = under size S c.y cy d some most

  abbrev gap : ℕ
  gap = min (min i j) (min k l)

  gap_num : Ground (gap_of size c d) gap
  unfolding gap_of
  gap_num =
      lesser_num _ _ (min i j) (min k l)
      (lesser_num _ _ i j (above_num size S c.x cx d some most) (under_num size S c.x cx d some most))
      (lesser_num _ _ k l (above_num size S c.y cy d some most) (under_num size S c.y cy d some most))

  gap_finite : T (finite (gap_of size c d))
  gap_finite = small_finite (gap_of size c d) gap 0 gap_num (lt_of_le_of_lt (least_top i j k l top (above_top size S c.x cx d some most)) (lit< tt)) (lit< tt)

  pub ground_gap : (n : ℕ) × Ground (mul binary32 (gap_of size c d) (gap_of size c d)) n
  ground_gap = (square binary32 (gap_of size c d), sq_num binary32 (gap_of size c d) gap_finite)

  -- a difference that is not below the gap has no lesser square
  beyond : (x : Float) → T (finite x) → (q n : ℕ) → Num binary32 x q n → gap + 0 ≤ q + n → square binary32 (gap_of size c d) ≤ square binary32 x
  beyond x f q n v h = square_mono binary32 (gap_of size c d) x gap 0 q n gap_finite f gap_num v h

  far_enough : (p : Position) (dp : T (position_in_domain p)) → d ≤ ring_of (cell_at size c) (cell_at size p) → square binary32 (gap_of size c d) ≤ far p c dp dc
  far_enough p dp h =
      elim (either_axis d _ _ h) [
        | inl g ↦
            let (q, n, v, o) = axis_far size S c.x cx d some most p.x (position_parts p dp).0 g in
            le_trans (beyond (sub binary32 p.x c.x) (finite_x p c dp dc) q n v (le_trans (least-x i j k l) o)) (from_x p c dp dc)
        | inr g ↦
            let (q, n, v, o) = axis_far size S c.y cy d some most p.y (position_parts p dp).1 g in
            le_trans (beyond (sub binary32 p.y c.y) (finite_y p c dp dc) q n v (le_trans (least-y i j k l) o)) (from_y p c dp dc)
      ]

  -- a point of ring d or farther is not nearer than the gap
  pub ring_far : (p : Position) → T (position_in_domain p) → d ≤ ring_of (cell_at size c) (cell_at size p)
      → lt (distance_squared p c) (mul binary32 (gap_of size c d) (gap_of size c d)) ≡ false
  ring_far p dp h =
      ground_lt (distance_squared p c) (mul binary32 (gap_of size c d) (gap_of size c d)) (far p c dp dc) (square binary32 (gap_of size c d)) (far_num p c dp dc) (sq_num binary32 (gap_of size c d) gap_finite)
      ∙ le-ltb (far p c dp dc) (square binary32 (gap_of size c d)) (far_enough p dp h)
