-- What the domain's tests let through: finite numbers, whose sums and differences stay within twice the reach. Assumes nothing.
use Rattle.basics.specs.Words.{ℕ, suc, ◌+◌, ◌*◌, ◌≤◌, ◌<◌, ◌≡◌, refl, ap, Bool, true, false, ◌&&◌, ◌||◌, T, eqb, ltb→lt, eqb→eq, lit<, pos, zero-mul, arith}
use Rattle.basics.specs.Words.{ne_eqb}
use lib.Ieee.{Float, nan, inf, fin, binary32, up, down, lt, eq, le, add, sub, fits}
use lib.Ieee.Fits.{and_i, and_l, and_r}
use lib.Ieee.Scale.{finite}
use Rattle.geometry.specs.declared.Position.{Position}
use Rattle.geometry.specs.Meaning.Domain.{within, reach, in_domain, position_in_domain, radius_in_domain}
use Rattle.geometry.proofs.laws.Back.{le_tt, le_tf}
use Rattle.geometry.proofs.laws.WithinLaws.{within_finite, add-within, sub_within}

pub domain_fits : (x : Float) → T (in_domain x) → T (fits binary32 x)
domain_fits x h = and_l (fits binary32 x) (within reach x) h

pub domain_within : (x : Float) → T (in_domain x) → T (within reach x)
domain_within x h = and_r (fits binary32 x) (within reach x) h

pub domain_finite : (x : Float) → T (in_domain x) → T (finite x)
domain_finite x h = within_finite reach x (domain_within x h)

pub position_parts : (p : Position) → T (position_in_domain p) → T (in_domain p.x) × T (in_domain p.y)
position_parts p h = (and_l (in_domain p.x) (in_domain p.y) h, and_r (in_domain p.x) (in_domain p.y) h)

-- the corners of a search may leave the domain, but not by more than its reach
top : T (fits binary32 (fin false 1 (pos (suc reach))))
unfolding fits
top = tt

pub low-within : (c r : Float) → T (in_domain c) → T (in_domain r) → T (within (suc reach) (sub binary32 c r))
low-within c r h k = sub_within binary32 reach c r (domain_fits c h) (domain_fits r k) (domain_finite c h) (domain_finite r k) (domain_within c h) (domain_within r k) (lit< tt) top

pub high-within : (c r : Float) → T (in_domain c) → T (in_domain r) → T (within (suc reach) (add binary32 c r))
high-within c r h k = add-within binary32 reach c r (domain_fits c h) (domain_fits r k) (domain_finite c h) (domain_finite r k) (domain_within c h) (domain_within r k) (lit< tt) top

-- ---- what the tests refuse
pub nan_refused : in_domain nan ≡ false
unfolding le lt eq fits
nan_refused = refl

pub infinity_refused : (s : Bool) → in_domain (inf s) ≡ false
unfolding le lt eq fits
infinity_refused true = refl
infinity_refused false = refl

pub radius_nan_refused : radius_in_domain nan ≡ false
unfolding le lt eq fits
radius_nan_refused = refl

pub radius_infinity_refused : (s : Bool) → radius_in_domain (inf s) ≡ false
unfolding le lt eq fits
radius_infinity_refused true = refl
radius_infinity_refused false = refl

-- -0.0 counts as 0
pub minus_zero-taken : radius_in_domain (fin true 0 (pos 0)) ≡ true
unfolding le lt eq fits
minus_zero-taken = refl

not_second : (a : Bool) {b : Bool} → b ≡ false → (a && b) ≡ false
not_second true e = e
not_second false e = refl

pub negative-refused : (r : Float) → T (lt r (fin false 0 (pos 0))) → radius_in_domain r ≡ false
unfolding le lt eq fits
negative-refused nan h = absurd h
negative-refused (inf false) h = absurd h
negative-refused (inf true) h = refl
negative-refused (fin false m e) h = absurd (no_less (m * up e * 1) (down e) (ltb→lt (m * up e * 1) (0 * down e) h))
  where
    no_less : (a d : ℕ) → a < 0 * d → ⊥
    no_less a d h = omega (arith, zero-mul d)
negative-refused (fin true m e) h =
    not_second (fits binary32 (fin true m e)) (ap (λ (t : Bool). t && le (fin true m e) (fin false 1 (pos reach))) (refused (m * up e * 1) (down e) (ltb→lt 0 (m * up e * 1 + 0 * down e) h)))
  where
    refused : (a d : ℕ) → 0 < a + 0 * d → (eqb (0 * d) a && (false || eqb (0 * d) 0)) ≡ false
    refused a d h = ap (λ (t : Bool). t && (false || eqb (0 * d) 0)) (ne_eqb (0 * d) a (omega (arith, zero-mul d)))

-- ---- a radius is a number of the domain that is not negative
abbrev from_zero : Float → Bool
from_zero r = le (fin false 0 (pos 0)) r && le r (fin false 1 (pos reach))

pub radius_fits : (r : Float) → T (radius_in_domain r) → T (fits binary32 r)
radius_fits r h = and_l (fits binary32 r) (from_zero r) h

pub radius_forward : (r : Float) → T (radius_in_domain r) → T (le (fin false 0 (pos 0)) r)
radius_forward r h = and_l (le (fin false 0 (pos 0)) r) (le r (fin false 1 (pos reach))) (and_r (fits binary32 r) (from_zero r) h)

from_zero_lem : (r : Float) → T (le (fin false 0 (pos 0)) r) → T (le (fin true 1 (pos reach)) r)
unfolding le lt eq
from_zero_lem nan h = h
from_zero_lem (inf true) h = absurd h
from_zero_lem (inf false) h = tt
from_zero_lem (fin false m e) h = le_tf (1 * up (pos reach) * down e) (m * up e * 1)
from_zero_lem (fin true m e) h = le_tt (1 * up (pos reach) * down e) (m * up e * 1) (none (m * up e * 1) (down e) (1 * up (pos reach) * down e) (eqb→eq (0 * down e) (m * up e * 1) (and_l (eqb (0 * down e) (m * up e * 1)) (false || eqb (0 * down e) 0) h)))
  where
    none : (a d c : ℕ) → 0 * d ≡ a → a ≤ c
    none a d c h = omega (arith, zero-mul d)

pub radius_in_domain_lem : (r : Float) → T (radius_in_domain r) → T (in_domain r)
radius_in_domain_lem r h =
    and_i (fits binary32 r) (within reach r) (radius_fits r h)
    (and_i (le (fin true 1 (pos reach)) r) (le r (fin false 1 (pos reach))) (from_zero_lem r (radius_forward r h))
    (and_r (le (fin false 0 (pos 0)) r) (le r (fin false 1 (pos reach))) (and_r (fits binary32 r) (from_zero r) h)))
