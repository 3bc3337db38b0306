-- `whole_cases::number_of` meets its contract: bits above those of infinity, the sign left out, are a NaN's, and 0 / 0 is one. Assumes nothing.
use Rattle.basics.specs.Words.{◌%◌, ◌≡◌, refl, sym, ◌∙◌, subst, Bool, true, not, T, lt-ltb, le-ltb, rules}
use lib.Ieee.{Float, nan, inf, fin, binary32, of_bits, is_nan, div}
use lib.Ieee.Bits.{nan_bits_is, nan_bits_above}
use Rattle.whole_cases.proofs.number_of.Statement.{statement}
use Rattle.whole_cases.proofs.number_of.Tie as tie

the_nan : (x : Float) → true ≡ is_nan x → nan ≡ x
unfolding is_nan
the_nan nan e = refl
the_nan (inf s) e = absurd (subst T e tt)
the_nan (fin s m k) e = absurd (subst T e tt)

returns : tie.Need-returns-then-bits-gt2139095040
unfolding div of_bits
returns c =
    let b = c.before.args.bits in
    the_nan _ (sym (lt-ltb 2139095040 (b % 2147483648) c.if-bits-gt2139095040.true) ∙ sym (nan_bits_above binary32 b) ∙ nan_bits_is binary32 b)

float-from-bits-result : tie.Need-float_from_bits-result
float-from-bits-result c =
    let b = c.before.args.bits in
    subst (λ (t : Bool). T (not t)) (sym (nan_bits_above binary32 b ∙ le-ltb 2139095040 (b % 2147483648) c.if-bits-gt2139095040.false)) tt

pub number_of_spec : {M : Type 1} → statement M
number_of_spec = tie.close (tie.spec returns float-from-bits-result (λ c. search rules))
