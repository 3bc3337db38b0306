-- `slot_walks::empty_slots`: the slots passed are cleared, and the map has their bits. Assumes nothing.
use Rattle.basics.specs.Words.{◌≡◌}
use Rattle.slot_walks.proofs.laws.ClearedLaws.{nums_to, map_to}
use Rattle.slot_walks.proofs.empty_slots.Given as goal

abbrev pub invariant-loop-i : goal.invariant-loop-i
invariant-loop-i l = (l.nums ≡ nums_to l.i l.fn.nums) × (l.map ≡ map_to l.i l.fn.nums l.fn.map)
