-- Assumes nothing.
use Rattle.box_tables.proofs.laws.PassLaws.{gone_all, gone-met}
use Rattle.box_tables.proofs.pass.pool_ok.Goals as goal

pub returns-then-pass-used : goal.returns-then-pass-used
returns-then-pass-used c =
    let g = c.pass.ensures.gone c.if-pass-used.true in
    record { yes = λ e. gone_all g (c.all_met.ensures.yes e); no = λ v. c.all_met.ensures.no (gone-met g v) }
