-- A live slot takes one place more, which both outputs have. Assumes nothing.
use Rattle.basics.specs.Words.{◌∙◌, sym, ap, [], ◌∷◌, set, arith}
use Rattle.slot_walks.specs.Meaning.Live.{obj_at}
use Rattle.slot_walks.proofs.laws.LiveLaws.{live-one, live-none, live-room}
use Rattle.storage.proofs.laws.PutLaws.{rows-room, rows_next, rows_same}
use Rattle.point_clear.proofs.put_objects.Goals as goal
use Rattle.point_clear.proofs.put_objects.Goals.{then-is_live, else-is_live}

pub bounds-places-k : goal.bounds-places-k
bounds-places-k c =
    let r = live-room c.args.nums.now c.loop-i.i c.loop-i-test.true (sym c.is_live.ensures ∙ c.if-is_live.true) in
    rows-room c.loop-i.invariant.of_places c.requires.2 (omega arith)

pub bounds-objs-k : goal.bounds-objs-k
bounds-objs-k c =
    let r = live-room c.args.nums.now c.loop-i.i c.loop-i-test.true (sym c.is_live.ensures ∙ c.if-is_live.true) in
    rows-room c.loop-i.invariant.of_objs c.requires.3 (omega arith)

pub loop-i-preserved : goal.loop-i-preserved
loop-i-preserved c =
    let nums = c.args.nums.now in
    let i = c.loop-i.i in
    let h = c.loop-i-test.true in
    let v = c.loop-i.invariant in
    elim c.if-is_live.branch [
      | then-is_live w ↦
          let g = sym c.is_live.ensures ∙ w.if-is_live.true in
          let r = live-room nums i h g in
          let e = live-one nums i h g in
          let o = w.objs-is ∙ ap (λ n. set c.loop-i.objs c.loop-i.k (obj_at nums i ∷ n ∷ [])) w.tracker_in.ensures in
          record {
            of_places = rows_next v.of_places i c.requires.2 (omega arith) e w.places-is w.k-is;
            of_objs = rows_next v.of_objs i c.requires.3 (omega arith) e o w.k-is;
          }
      | else-is_live w ↦
          let e = live-none nums i h (sym c.is_live.ensures ∙ w.if-is_live.false) in
          record { of_places = rows_same v.of_places e w.places-is w.k-is; of_objs = rows_same v.of_objs e w.objs-is w.k-is }
    ]
