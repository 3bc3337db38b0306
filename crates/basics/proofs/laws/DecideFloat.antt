-- Whether two floats are the same can be decided: the same as data, so that -0.0 and 0.0 differ. Assumes nothing.
use Rattle.basics.specs.Words.{ℕ, ◌≡◌, refl, ap, sym, Bool, true, false, inl, inr, ℤ, pos}
use lib.Ieee.{Float, nan, inf, fin}
use Rattle.basics.specs.Meaning.Says.{Decided}
use Rattle.basics.proofs.laws.Says.{apart, d_via, d_and, d_eq, d_eqz}

d_bool : (a b : Bool) → Decided (a ≡ b)
d_bool true true = inl refl
d_bool true false = inr (λ e. apart (sym e))
d_bool false true = inr (λ e. apart e)
d_bool false false = inl refl

-- the parts of a float
abbrev sign : Float → Bool
sign nan = false
sign (inf s) = s
sign (fin s m e) = s

abbrev digits : Float → ℕ
digits nan = 0
digits (inf s) = 0
digits (fin s m e) = m

abbrev exponent : Float → ℤ
exponent nan = pos 0
exponent (inf s) = pos 0
exponent (fin s m e) = e

abbrev is_nan : Float → Bool
is_nan nan = true
is_nan (inf s) = false
is_nan (fin s m e) = false

abbrev is_inf : Float → Bool
is_inf nan = false
is_inf (inf s) = true
is_inf (fin s m e) = false

pub d_float : (a b : Float) → Decided (a ≡ b)
d_float nan nan = inl refl
d_float nan (inf t) = inr (λ e. apart (sym (ap is_nan e)))
d_float nan (fin t n d) = inr (λ e. apart (sym (ap is_nan e)))
d_float (inf s) nan = inr (λ e. apart (ap is_nan e))
d_float (inf s) (inf t) = d_via (ap inf) (ap sign) (d_bool s t)
d_float (inf s) (fin t n d) = inr (λ e. apart (sym (ap is_inf e)))
d_float (fin s m e) nan = inr (λ q. apart (ap is_nan q))
d_float (fin s m e) (inf t) = inr (λ q. apart (ap is_inf q))
d_float (fin s m e) (fin t n d) =
    d_via (λ x. λ z. fin (x.0 z) (x.1.0 z) (x.1.1 z)) (λ q. (ap sign q, (ap digits q, ap exponent q)))
    (d_and (d_bool s t) (d_and (d_eq m n) (d_eqz e d)))
