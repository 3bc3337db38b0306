-- `encoder_boxes::onward`: no place passed has the key or a greater one. The measure is what is left. Assumes nothing.
use Rattle.basics.specs.Words.{◌-◌, ◌≤◌, length, take}
use Rattle.storage.specs.Meaning.Entries.{row_key}
use Rattle.storage.specs.Meaning.Keyed.{below}
use Rattle.encoder_boxes.proofs.onward.Given as goal

abbrev pub invariant-loop-j : goal.invariant-loop-j
invariant-loop-j l = l.j ≤ length (below row_key l.key (take l.used l.pool))

abbrev pub decreases-loop-j : goal.decreases-loop-j
decreases-loop-j l = l.used - l.j
