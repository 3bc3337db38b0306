-- Assumes nothing.
use Rattle.basics.specs.Words.{◌≡◌, refl, sym, ◌∙◌, subst}
use Rattle.basics.proofs.laws.Says.{apart}
use Rattle.cells.proofs.laws.ReachLaws.{position_reached}
use Rattle.point_records.specs.declared.State.TheVariants.{NewPos, Relocate}
use Rattle.point_records.proofs.Shared.{same_says}
use Rattle.point_deferred.specs.declared.Ask.{Ask}
use Rattle.point_deferred.specs.Inner.Ask.{kind_of, place_of, Allowed}
use Rattle.point_deferred.specs.Inner.Held.{state_for}
use Rattle.point_deferred.proofs.Shared.{leads, leaves}
use Rattle.point_deferred.proofs.rows.state_for.Goals as goal

pub cell_at-to-requires-clause-reached : goal.cell_at-to-requires-clause-reached
cell_at-to-requires-clause-reached c =
    position_reached c.in-SetPosition.at (subst (λ (a : Ask). Allowed a) c.in-SetPosition.is c.requires.1 refl)

pub returns-then-eq : goal.returns-then-eq
returns-then-eq c =
    let a = c.args in
    let at = c.in-SetPosition.at in
    let to = c.cell_at-to.result in
    subst (λ (k : Ask). NewPos at ≡ state_for a.size a.c (kind_of k) (place_of k)) (sym c.in-SetPosition.is)
    (leads a.size a.c at to c.cell_at-to.ensures ((same_says to a.c).yes (sym c.eq.ensures ∙ c.if-eq.true)))

pub returns-else-eq : goal.returns-else-eq
returns-else-eq c =
    let a = c.args in
    let at = c.in-SetPosition.at in
    let to = c.cell_at-to.result in
    subst (λ (k : Ask). Relocate at to ≡ state_for a.size a.c (kind_of k) (place_of k)) (sym c.in-SetPosition.is)
    (leaves a.size a.c at to c.cell_at-to.ensures (λ e. apart (sym c.if-eq.false ∙ c.eq.ensures ∙ (same_says to a.c).no e)))
