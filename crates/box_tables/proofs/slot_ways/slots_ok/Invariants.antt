-- `box_tables::slot_ways::slots_ok`: every slot before s holds, and its way is there. Assumes nothing.
use Rattle.basics.specs.Words.{ℕ, ◌<◌, get_or}
use Rattle.box_tables.specs.Inner.Check.{SlotOk, WaysTo}
use Rattle.box_tables.proofs.slot_ways.slots_ok.Given as goal

abbrev pub invariant-loop-s : goal.invariant-loop-s
invariant-loop-s l = WaysTo l.nums l.reals l.map l.ways l.s × ((s : ℕ) → s < l.s → SlotOk l.nums l.reals l.map (get_or l.map 0 0) s)
