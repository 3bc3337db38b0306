-- `slots::lowest`: every word before w is 0. Assumes nothing.
use Rattle.basics.specs.Words.{ℕ, ◌+◌, ◌<◌, ◌≡◌, get_or}
use Rattle.slots.specs.Meaning.Map.{head}
use Rattle.slots.proofs.lowest.Given as goal

abbrev pub invariant-loop-w : goal.invariant-loop-w
invariant-loop-w l = (v : ℕ) → v < l.w → get_or l.map (head + v) 0 ≡ 0
