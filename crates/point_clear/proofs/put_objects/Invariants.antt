-- `point_clear::put_objects`: what the slots passed have stands in the first places of both outputs. Assumes nothing.
use Rattle.basics.specs.Words.{length}
use Rattle.slot_walks.specs.Meaning.Live.{live_from}
use Rattle.slot_walks.proofs.laws.LiveLaws.{live_to}
use Rattle.point_clear.specs.Inner.{place_at, obj_row_at}
use Rattle.storage.proofs.laws.PutLaws.{Rows}
use Rattle.point_clear.proofs.put_objects.Given as goal

abbrev pub invariant-loop-i : goal.invariant-loop-i
invariant-loop-i l = record {
  of_places : Rows (place_at l.reals) (live_to l.i l.nums) (length (live_from 0 l.nums)) l.initial.places l.places l.k;
  of_objs : Rows (obj_row_at l.nums) (live_to l.i l.nums) (length (live_from 0 l.nums)) l.initial.objs l.objs l.k;
}
