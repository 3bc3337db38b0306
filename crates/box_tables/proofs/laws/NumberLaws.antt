-- The guess at a cell is a number: a product and sums of finite numbers, each rounded once, are no NaN. Assumes nothing.
use Rattle.basics.specs.Words.{ℕ, zero, suc, ◌+◌, ◌-◌, ◌*◌, ◌^◌, Bool, true, false, not, cond, ◌&&◌, beq, T, ltb}
use lib.Ieee.{Float, nan, inf, fin, Format, binary32, prec, emax, low, odd, units, round, neg, sum, add, sub, mul, is_nan}
use lib.Ieee.Scale.{finite}
use Rattle.geometry.specs.Meaning.Domain.{in_domain}
use Rattle.geometry.proofs.laws.DomainLaws.{domain_finite}

abbrev Number : Float → Type 0
Number x = T (not (is_nan x))

-- ---- what is rounded
chosen : (d : ℕ) (s : Bool) (k l : ℕ) (b : Bool) (q : ℕ) → Number (cond b (odd d s q k l) (inf s))
unfolding odd is_nan
chosen d s k l true zero = tt
chosen d s k l true (suc q) = tt
chosen d s k l false q = tt

units_number : (f : Format) (s : Bool) (q k : ℕ) → Number (units f s q k)
unfolding units
units_number f s q k = chosen (suc (prec f)) s k (low f) (ltb (q * 2 ^ k) (2 ^ (low f + suc (emax f)))) q

round_number : (f : Format) (s : Bool) (num den : ℕ) → Number (round f s num den)
unfolding round
round_number f s num den = units_number f s _ _

either : (f : Format) (s t u : Bool) (a b c d : ℕ) (x y : Bool) → Number (cond x (round f s a d) (cond y (round f t b d) (round f u c d)))
either f s t u a b c d true y = round_number f s a d
either f s t u a b c d false true = round_number f t b d
either f s t u a b c d false false = round_number f u c d

sum_number : (f : Format) (s : Bool) (a : ℕ) (t : Bool) (b c : ℕ) → Number (sum f s a t b c)
unfolding sum
sum_number f s a t b c = either f s t (s && ltb b a) (a + b) (b - a) (a - b) c (beq s t) (ltb a b)

-- ---- sums and products
add-number : (f : Format) (x y : Float) → Number x → T (finite y) → Number (add f x y)
unfolding add is_nan
add-number f nan y h k = absurd h
add-number f (inf s) nan h k = absurd k
add-number f (inf s) (inf t) h k = absurd k
add-number f (inf s) (fin t n d) h k = tt
add-number f (fin s m e) nan h k = absurd k
add-number f (fin s m e) (inf t) h k = absurd k
add-number f (fin s m e) (fin t n d) h k = sum_number f s _ t _ _

sub_number : (f : Format) (x y : Float) → Number x → T (finite y) → Number (sub f x y)
unfolding sub neg
sub_number f x nan h k = absurd k
sub_number f x (inf s) h k = absurd k
sub_number f x (fin s m e) h k = add-number f x (fin (not s) m e) h tt

mul-number : (f : Format) (x y : Float) → T (finite x) → T (finite y) → Number (mul f x y)
unfolding mul
mul-number f nan y h k = absurd h
mul-number f (inf s) y h k = absurd h
mul-number f (fin s m e) nan h k = absurd k
mul-number f (fin s m e) (inf t) h k = absurd k
mul-number f (fin s m e) (fin t n d) h k = round_number f _ _ _

pub guess_number : (x r a b : Float) → T (in_domain x) → T (in_domain r) → T (finite a) → T (finite b) → T (not (is_nan (add binary32 (sub binary32 (mul binary32 x r) a) b)))
guess_number x r a b hx hr ha hb =
    add-number binary32 (sub binary32 (mul binary32 x r) a) b
    (sub_number binary32 (mul binary32 x r) a (mul-number binary32 x r (domain_finite x hx) (domain_finite r hr)) ha) hb
