-- Assumes nothing.
use Rattle.basics.specs.Words.{◌∙◌}
use Rattle.storage.proofs.laws.GapLaws.{close_up}
use Rattle.storage.proofs.gap.close.Goals as goal

pub returns : goal.returns
returns g c = c.copy_within.ensures.after ∙ close_up c.args.s.now c.args.p c.args.k c.requires.0
