-- `point_maintain_slots::count_moves`: the rows gone over are counted. Assumes nothing.
use Rattle.basics.specs.Words.{◌≡◌, length}
use Rattle.point_maintain_slots.specs.Inner.Counts.{columns, moved_in, removed_in}
use Rattle.point_maintain_slots.proofs.count_moves.Given as goal

abbrev pub invariant-loop-n : goal.invariant-loop-n
invariant-loop-n l =
    (l.moved ≡ moved_in (columns l.nums l.reals) (length l.yielded)) × (l.removed ≡ removed_in (columns l.nums l.reals) (length l.yielded))
