-- `geometry::absolute` meets its contract. Assumes nothing.
use Rattle.basics.specs.Words.{sym, ap, ◌∙◌, subst, T}
use lib.Ieee.{eq, lt}
use Rattle.geometry.proofs.Tests.{nought}
use Rattle.geometry.proofs.Unsigned.{of_zero, of_below, of_above}
use Rattle.geometry.proofs.absolute.Statement.{statement}
use Rattle.geometry.proofs.absolute.Tie as tie

returns : tie.Need-returns-then-x
returns c =
    let s = c.before in
    nought ∙ of_zero s.args.x (subst T (sym s.well_formed.0.1) tt) (ap (eq s.args.x) (sym nought) ∙ c.if-x.true)

returns-2 : tie.Need-returns-then-x-2
returns-2 c = let x = c.before.before.args.x in of_below x (ap (lt x) (sym nought) ∙ c.if-x-2.true)

returns-3 : tie.Need-returns-else-x-2
returns-3 c =
    let x = c.before.before.args.x in
    of_above x (ap (eq x) (sym nought) ∙ c.before.if-x.false) (ap (lt x) (sym nought) ∙ c.if-x-2.false)

pub absolute_spec : {M : Type 1} → statement M
absolute_spec = tie.close (tie.spec returns returns-2 returns-3)
