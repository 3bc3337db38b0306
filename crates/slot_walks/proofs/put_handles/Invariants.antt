-- `slot_walks::put_handles`: the handles of the slots passed stand in the first places. Assumes nothing.
use Rattle.basics.specs.Words.{◌≡◌, map, length}
use Rattle.storage.specs.Meaning.Keyed.{written}
use Rattle.slot_walks.specs.Meaning.Live.{handle_at}
use Rattle.slot_walks.proofs.laws.LiveLaws.{live_to}
use Rattle.slot_walks.proofs.put_handles.Given as goal

abbrev pub invariant-loop-i : goal.invariant-loop-i
invariant-loop-i l = (l.k ≡ length (live_to l.i l.nums)) × (l.out ≡ written (map (handle_at l.nums) (live_to l.i l.nums)) l.fn.out)
