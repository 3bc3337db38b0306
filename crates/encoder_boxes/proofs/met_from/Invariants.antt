-- `encoder_boxes::met_from`: no place passed has what is looked for. Assumes nothing.
use Rattle.basics.specs.Words.{◌≡◌}
use Rattle.encoder_boxes.specs.Inner.Windows.{met_from}
use Rattle.encoder_boxes.proofs.met_from.Given as goal

abbrev pub invariant-loop-j : goal.invariant-loop-j
invariant-loop-j l = met_from l.reals l.pool l.used l.p l.last l.q ≡ met_from l.reals l.pool l.used l.j l.last l.q
