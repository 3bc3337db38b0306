-- `storage::walk::run_end`: every place passed is in the window. Assumes nothing.
use Rattle.basics.specs.Words.{ℕ, ◌<◌, ◌≤◌, ◌≡◌, true}
use Rattle.storage.specs.Meaning.Packed.{first}
use Rattle.storage.specs.Inner.Window.{in_range}
use Rattle.storage.proofs.walk.run_end.Given as goal

abbrev pub invariant-loop-to : goal.invariant-loop-to
invariant-loop-to l = (j : ℕ) → j < l.to → l.from ≤ j → in_range l.low l.high (first l.pool j) ≡ true
