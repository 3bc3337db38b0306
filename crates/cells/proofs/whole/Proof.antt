-- `cells::whole` meets its contract. Assumes nothing.
use Rattle.basics.specs.Words.{ℕ, ◌<◌, ◌≤◌, sym, ap, ◌∙◌, subst, not, T, pos, neg_ℤ, arith, rules}
use lib.Ieee.{Float, binary32, fits, to_bits, is_nan}
use mir.Syntax.{w32}
use mir.ValLaws.{to_z_pos}
use Rattle.cells.proofs.Fields.{cut_le, above, far_above, under, number, no_number}
use Rattle.cells.proofs.Signs.{one_less_fits, negated_fits, negated}
use Rattle.cells.proofs.whole.Statement.{statement}
use Rattle.cells.proofs.whole.Tie as tie

-- x, the fact that it fits, and that it is a number
abbrev x : tie.Else-x → Float
x c = c.before.args.x

held : (c : tie.Else-x) → T (fits binary32 (x c))
held c = subst T (sym c.before.well_formed.0.1) tt

no_nan : (c : tie.Else-x) → T (not (is_nan (x c)))
no_nan c = number (x c) c.if-x.false

-- what `cut` returned is above zero and at most 2 ^ 31
some : (c : tie.Else-n-eq0) → 0 < c.before.before.cut-n.result
some c = omega (arith, c.if-n-eq0)

most : (c : tie.Else-n-eq0) → c.before.before.cut-n.result ≤ 2147483648
most c = subst (λ (n : ℕ). n ≤ 2147483648) (sym c.before.before.cut-n.ensures) (cut_le (to_bits binary32 (x c.before.before.before)))

returns-2 : tie.Need-returns-then-n-lt2147483648
returns-2 c =
    let f = c.before.before in
    to_z_pos w32 f.cut-n.result c.if-n-lt2147483648.true ∙ ap pos f.cut-n.ensures
    ∙ above (x f.before) (held f.before) (no_nan f.before) c.before.if-b-lt2147483648.true (subst (λ (n : ℕ). n < 2147483648) f.cut-n.ensures c.if-n-lt2147483648.true)

returns-3 : tie.Need-returns-else-n-lt2147483648
returns-3 c =
    let f = c.before.before in
    far_above (x f.before) (held f.before) (no_nan f.before) c.before.if-b-lt2147483648.true (subst (λ (n : ℕ). 2147483648 ≤ n) f.cut-n.ensures c.if-n-lt2147483648.false)

returns-4 : tie.Need-returns-then-n-eq0
returns-4 c =
    let f = c.before.before in
    ap (λ (n : ℕ). neg_ℤ (pos n)) (sym c.if-n-eq0.true ∙ f.cut-n.ensures) ∙ under (x f.before) (held f.before) (no_nan f.before) c.before.if-b-lt2147483648.false

returns-5 : tie.Need-returns-else-n-eq0
returns-5 c =
    let f = c.before.before in
    negated f.cut-n.result (some c) (most c) ∙ ap (λ (n : ℕ). neg_ℤ (pos n)) f.cut-n.ensures ∙ under (x f.before) (held f.before) (no_nan f.before) c.before.if-b-lt2147483648.false

pub whole_spec : {M : Type 1} → statement M
whole_spec =
    tie.close
    (tie.spec
    (λ c. no_number _ c.if-x.true)
    (λ c. number _ c.if-x.false)
    (λ c κs. search rules)
    (λ c. search rules)
    (λ c. search rules)
    (λ c. one_less_fits c.before.before.cut-n.result (some c) (most c))
    (λ c. negated_fits c.before.before.cut-n.result (some c) (most c))
    returns-2
    returns-3
    returns-4
    returns-5)
