-- The spans are those of the column and the line of the cell, which is not c. Assumes nothing.
use Rattle.basics.specs.Words.{◌∙◌, rules}
use Rattle.basics.proofs.laws.Says.{says_via, apart}
use Rattle.point_records.proofs.Shared.{same_says}
use Rattle.point_records.proofs.laws.KeptLaws.{counted}
use Rattle.point_records.proofs.relocated.Goals as goal

pub inside-requires : goal.inside-requires
inside-requires c =
    rw (c.at-y.ensures.same_size, c.at-x.ensures.same_size) (
      rw (counted {z = c.args.to.x} (search rules) c.up_from_least.ensures) at c.at-x.ensures.span,
      rw (counted {z = c.args.to.y} (search rules) c.up_from_least-2.ensures, c.at-x.ensures.same_size) at c.at-y.ensures.span,
    )

pub returns-clause-says : goal.returns-clause-says
returns-clause-says c =
    let i = rw (c.at-y.ensures.same_size, c.at-x.ensures.same_size) at c.inside.ensures in
    says_via (λ w. (w.0, w.1, λ e. apart (c.if-eq.ensures ∙ (same_says c.args.to c.args.c).no e))) (λ w. (w.0, w.1)) i
