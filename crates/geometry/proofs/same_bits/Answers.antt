-- Assumes nothing.
use Rattle.basics.specs.Words.{sym, ◌∙◌, ap, subst, not, T, eq-eqb, eqb-true}
use lib.Ieee.{is_nan, ne, binary32, to_bits}
use Rattle.basics.proofs.laws.Says.{says_no, apart}
use Rattle.geometry.proofs.laws.BitsLaws.{same_by_bits, nan_if_unlike, number_if_alike}
use Rattle.geometry.proofs.same_bits.Goals as goal
use Rattle.geometry.proofs.same_bits.Goals.{then-a, else-a}

pub returns-then-b : goal.returns-then-b
unfolding ne
returns-then-b c =
    let a = c.args.a in
    let b = c.args.b in
    elim c.if-a.branch [
      | then-a w ↦ record {
        yes = λ e. (same_by_bits a b (subst T (sym c.well_formed.0.1) tt) (subst T (sym c.well_formed.1.0.1) tt) (eqb-true _ _ e), number_if_alike a (ap not w.if-a.true));
        no = λ p. eq-eqb _ _ (ap (to_bits binary32) p.0);
      }
      | else-a w ↦ absurd (apart (sym w.if-a.false ∙ sym w.value-is ∙ c.if-b.true))
    ]

pub returns-else-b : goal.returns-else-b
unfolding ne
returns-else-b c =
    rw c.if-b.false
    (elim c.if-a.branch [
      | then-a w ↦ says_no (λ p. nan_if_unlike c.args.b (ap not (sym w.value-is ∙ c.if-b.false)) (ap is_nan (sym p.0) ∙ p.1))
      | else-a w ↦ says_no (λ p. nan_if_unlike c.args.a (ap not w.if-a.false) p.1)
    ])
