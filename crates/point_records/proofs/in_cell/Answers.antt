-- The cell of the rows is c, once it is compared. Assumes nothing.
use Rattle.basics.specs.Words.{sym, get_or, pos, rules}
use Rattle.std.proofs.Common.{SFits, w32}
use Rattle.std.proofs.lemmas.Int.{to_z-of_z}
use Rattle.basics.proofs.laws.Says.{says_via}
use Rattle.point_records.proofs.Shared.{same_says}
use Rattle.point_records.proofs.in_cell.Goals as goal

pub returns-then-eq : goal.returns-then-eq
returns-then-eq c =
    let x : SFits w32 (get_or c.args.z 0 (pos 0)) = search rules in
    let y : SFits w32 (get_or c.args.z 1 (pos 0)) = search rules in
    let e = simp to_z-of_z at c.if-eq.ensures in
    says_via (λ w. record { is_cell = (same_says _ c.args.c).yes (sym e); within_domain = w.0; in_cell = w.1 }) (λ h. (h.within_domain, h.in_cell)) c.inside.ensures
