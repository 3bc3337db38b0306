-- No point that the circle test finds lies outside the searched range: it is not below centre - r and not above centre + r on either axis,
-- all as binary32 rounds them. It holds of all finite values and any radius that is not negative. Assumes nothing.
use Rattle.basics.specs.Words.{◌≡◌, false, T, pos}
use lib.Ieee.{Float, fin, binary32, le, sub}
use Rattle.geometry.specs.declared.Position.{Position}
use Rattle.geometry.specs.Meaning.Domain.{in_domain, position_in_domain, radius_in_domain}
use Rattle.geometry.proofs.laws.DomainLaws.{domain_fits, domain_finite, position_parts, radius_forward, radius_in_domain_lem}
use Rattle.geometry.specs.Meaning.Circle.{distance_squared, in_circle}
use Rattle.geometry.proofs.laws.Rounding.{number}
use Rattle.geometry.proofs.laws.Sums.{sub_num}
use Rattle.geometry.proofs.laws.Near.{x-near, y-near}
use Rattle.geometry.proofs.laws.Around.{Plain, Around, not_below-zero, around}

pub no_point_outside : (p centre : Position) (r : Float) → Plain binary32 p.x → Plain binary32 p.y → Plain binary32 centre.x → Plain binary32 centre.y → Plain binary32 r
    → T (le (fin false 0 (pos 0)) r) → T (in_circle p centre r) → Around binary32 p.x centre.x r × Around binary32 p.y centre.y r
unfolding in_circle distance_squared
no_point_outside p centre r a b c d e g h =
    let f = binary32 in
    let (pp, np, vp) = number f p.x a.0 a.1 in
    let (qp, kp, wp) = number f p.y b.0 b.1 in
    let (pc, nc, vc) = number f centre.x c.0 c.1 in
    let (qc, kc, wc) = number f centre.y d.0 d.1 in
    let (pr, nr, vr) = number f r e.0 e.1 in
    let z : nr ≡ 0 = not_below-zero f r pr nr vr g in
    let dx = sub_num f p.x centre.x pp np pc nc a.1 c.1 vp vc in
    let dy = sub_num f p.y centre.y qp kp qc kc b.1 d.1 wp wc in (
      around f p.x centre.x r pp np pc nc pr nr a c e vp vc vr z (x-near f (sub f p.x centre.x) (sub f p.y centre.y) r _ _ _ _ pr nr dx dy vr e.1 h),
      around f p.y centre.y r qp kp qc kc pr nr b d e wp wc vr z (y-near f (sub f p.x centre.x) (sub f p.y centre.y) r _ _ _ _ pr nr dx dy vr e.1 h),
    )

-- the same in the words of the domain
pub found_in_range : (p centre : Position) (r : Float) → T (position_in_domain p) → T (position_in_domain centre) → T (radius_in_domain r) → T (in_circle p centre r)
    → Around binary32 p.x centre.x r × Around binary32 p.y centre.y r
found_in_range p centre r dp dc dr h =
    let (px, py) = position_parts p dp in
    let (cx, cy) = position_parts centre dc in
    no_point_outside p centre r (plain p.x px) (plain p.y py) (plain centre.x cx) (plain centre.y cy) (plain r (radius_in_domain_lem r dr)) (radius_forward r dr) h
  where
    plain : (x : Float) → T (in_domain x) → Plain binary32 x
    plain x d = (domain_fits x d, domain_finite x d)
