-- Assumes nothing.
use Rattle.basics.specs.Words.{◌∙◌, ap, set}
use Rattle.storage.proofs.laws.GapLaws.{open_up}
use Rattle.storage.proofs.gap.open.Goals as goal

pub returns : goal.returns
returns g c = ap (λ l. set l c.args.p c.args.v) c.copy_within.ensures.after ∙ open_up c.args.s.now c.args.p c.args.k c.args.v c.requires.0 c.requires.1
