-- `storage::walk::first_in`: no place passed is in the window. The measure is what is left of the pool. Assumes nothing.
use Rattle.basics.specs.Words.{ℕ, ◌-◌, ◌<◌, ◌≤◌, ◌≡◌, false}
use Rattle.storage.specs.Meaning.Packed.{first}
use Rattle.storage.specs.Inner.Window.{in_range}
use Rattle.storage.proofs.walk.first_in.Given as goal

abbrev pub invariant-loop-p : goal.invariant-loop-p
invariant-loop-p l =
    (l.i ≤ l.p) × (l.p ≤ l.used) × ((j : ℕ) → l.i ≤ j → j < l.p → in_range l.low l.high (first l.pool j) ≡ false)

abbrev pub decreases-loop-p : goal.decreases-loop-p
decreases-loop-p l = l.used - l.p
