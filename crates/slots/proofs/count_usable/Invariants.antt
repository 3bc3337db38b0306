-- `slots::count_usable`: the words before w are counted. Assumes nothing.
use Rattle.basics.specs.Words.{◌*◌, ◌≡◌}
use Rattle.slots.specs.Inner.Map.{usable_below}
use Rattle.slots.proofs.count_usable.Given as goal

abbrev pub invariant-loop-w : goal.invariant-loop-w
invariant-loop-w l = l.count ≡ usable_below l.map (l.w * 64)
