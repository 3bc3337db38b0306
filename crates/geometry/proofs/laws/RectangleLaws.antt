-- Sorted corners: the lower lies below both that were given, the upper above both, and both stay in the domain. A point that the rectangle's test lets
-- through lies between them. Assumes nothing.
use Rattle.basics.specs.Words.{◌≡◌, refl, subst, sym, Bool, true, false, ◌&&◌, T}
use lib.Ieee.{Float, le}
use lib.Ieee.Fits.{and_i, and_l, and_r}
use lib.Ieee.Scale.{finite}
use Rattle.basics.specs.Meaning.Refusals.{pick}
use Rattle.geometry.specs.declared.Position.{Position}
use Rattle.geometry.specs.Meaning.Domain.{in_domain, position_in_domain}
use Rattle.geometry.specs.Meaning.Rectangle.{lesser, greater, lower_corner, upper_corner, in_rectangle}
use Rattle.geometry.proofs.laws.OrderLaws.{le_refl, le_total}
use Rattle.geometry.proofs.laws.DomainLaws.{domain_finite, position_parts}

-- p is at most q on both axes
abbrev pub Below : Position → Position → Type 0
Below p q = T (le p.x q.x) × T (le p.y q.y)

-- ---- one axis
module _ (a b : Float) (fa : T (finite a)) (fb : T (finite b)) where
  -- what holds of the one that a test picks
  picks : (P : Float → Type 0) (t : Bool) → (t ≡ true → P a) → (t ≡ false → P b) → P (pick t a b)
  picks P true f g = f refl
  picks P false f g = g refl

  pub lesser-first : T (le (lesser a b) a)
  lesser-first = picks (λ z. T (le z a)) (le a b) (λ e. le_refl a fa) (le_total a b fa fb)

  pub lesser-second : T (le (lesser a b) b)
  lesser-second = picks (λ z. T (le z b)) (le a b) (λ e. subst T (sym e) tt) (λ e. le_refl b fb)

  pub first-greater : T (le a (greater a b))
  first-greater = picks (λ z. T (le a z)) (le b a) (λ e. le_refl a fa) (le_total b a fb fa)

  pub second-greater : T (le b (greater a b))
  second-greater = picks (λ z. T (le b z)) (le b a) (λ e. subst T (sym e) tt) (λ e. le_refl b fb)

  pub lesser-greater : T (le (lesser a b) (greater a b))
  lesser-greater = picks (λ z. T (le z (greater a b))) (le a b) (λ e. first-greater) (λ e. second-greater)

-- one of two numbers of the domain is one
pub picked : (t : Bool) (a b : Float) → T (in_domain a) → T (in_domain b) → T (in_domain (pick t a b))
picked true a b h g = h
picked false a b h g = g

-- ---- both axes
module _ (a b : Position) (ha : T (position_in_domain a)) (hb : T (position_in_domain b)) where
  abbrev ia : T (in_domain a.x) × T (in_domain a.y)
  ia = position_parts a ha

  abbrev ib : T (in_domain b.x) × T (in_domain b.y)
  ib = position_parts b hb

  -- a law of one axis, on both
  on_axes : {P : Float → Float → Type 0} → ((c d : Float) → T (finite c) → T (finite d) → P c d) → P a.x b.x × P a.y b.y
  on_axes law = (law a.x b.x (domain_finite a.x ia.0) (domain_finite b.x ib.0), law a.y b.y (domain_finite a.y ia.1) (domain_finite b.y ib.1))

  pub lower-first : Below (lower_corner a b) a
  lower-first = on_axes lesser-first

  pub lower-second : Below (lower_corner a b) b
  lower-second = on_axes lesser-second

  pub upper_first : Below a (upper_corner a b)
  upper_first = on_axes first-greater

  pub upper_second : Below b (upper_corner a b)
  upper_second = on_axes second-greater

  pub lower_upper : Below (lower_corner a b) (upper_corner a b)
  lower_upper = on_axes lesser-greater

  pub lower_in_domain : T (position_in_domain (lower_corner a b))
  lower_in_domain = and_i (in_domain (lesser a.x b.x)) (in_domain (lesser a.y b.y)) (picked (le a.x b.x) a.x b.x ia.0 ib.0) (picked (le a.y b.y) a.y b.y ia.1 ib.1)

  pub upper_in_domain : T (position_in_domain (upper_corner a b))
  upper_in_domain = and_i (in_domain (greater a.x b.x)) (in_domain (greater a.y b.y)) (picked (le b.x a.x) a.x b.x ia.0 ib.0) (picked (le b.y a.y) a.y b.y ia.1 ib.1)

-- ---- a point between two corners
pub rectangle_between : (p ll ur : Position) → T (in_rectangle p ll ur) → Below ll p × Below p ur
rectangle_between p ll ur h =
    let a = le ll.x p.x in
    let b = le p.x ur.x in
    let c = le ll.y p.y in
    let d = le p.y ur.y in
    let x = and_l (a && b) (c && d) h in
    let y = and_r (a && b) (c && d) h in
    ((and_l a b x, and_l c d y), (and_r a b x, and_r c d y))
