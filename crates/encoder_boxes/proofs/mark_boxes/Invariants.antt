-- `encoder_boxes::mark_boxes`: the blocks passed are marked, and the keys of the blocks rise. Assumes nothing.
use Rattle.basics.specs.Words.{suc, ◌≤◌, length, take}
use Rattle.cells.specs.Meaning.Key.{key_of}
use Rattle.storage.specs.Meaning.Entries.{row_key}
use Rattle.storage.specs.Meaning.Keyed.{below}
use Rattle.encoder_blocks.specs.Inner.Places.{cell, column_at, line_at}
use Rattle.encoder_boxes.specs.Inner.Windows.{Overlaid}
use Rattle.encoder_boxes.proofs.mark_boxes.Given as goal

abbrev pub invariant-loop-k : goal.invariant-loop-k
invariant-loop-k l =
    (l.here ≤ length (below row_key (key_of (cell (column_at l.k) (line_at l.k))) (take l.used l.pool)))
    × (l.next ≤ length (below row_key (key_of (cell (column_at l.k) (suc (line_at l.k)))) (take l.used l.pool)))
    × Overlaid l.reals (take l.used l.pool) l.k l.fn.bytes l.bytes
