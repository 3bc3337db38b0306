-- `storage::walk::list_end`: every place passed has the key. Assumes nothing.
use Rattle.basics.specs.Words.{ℕ, ◌<◌, ◌≤◌, ◌≡◌}
use Rattle.storage.specs.Meaning.Packed.{first}
use Rattle.storage.proofs.walk.list_end.Given as goal

abbrev pub invariant-loop-to : goal.invariant-loop-to
invariant-loop-to l = (j : ℕ) → j < l.to → l.from ≤ j → first l.pool j ≡ l.key
