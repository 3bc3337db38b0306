-- `box_clear::put_boxes`: what the slots passed have stands in the first places of both outputs. Assumes nothing.
use Rattle.basics.specs.Words.{length}
use Rattle.slot_walks.specs.Meaning.Live.{live_from, obj_at}
use Rattle.slot_walks.proofs.laws.LiveLaws.{live_to}
use Rattle.box_clear.specs.Meaning.Clear.{box_at}
use Rattle.storage.proofs.laws.PutLaws.{Rows}
use Rattle.box_clear.proofs.put_boxes.Given as goal

abbrev pub invariant-loop-i : goal.invariant-loop-i
invariant-loop-i l = record {
  of_boxes : Rows (box_at l.reals) (live_to l.i l.nums) (length (live_from 0 l.nums)) l.initial.boxes l.boxes l.k;
  of_objs : Rows (obj_at l.nums) (live_to l.i l.nums) (length (live_from 0 l.nums)) l.initial.objs l.objs l.k;
}
