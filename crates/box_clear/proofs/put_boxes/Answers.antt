-- A live slot takes one place more, which both outputs have. Assumes nothing.
use Rattle.basics.specs.Words.{◌∙◌, ◌≡◌, refl, ap, sym, List, [], ◌∷◌, set, length, get_or, arith, rules}
use Rattle.std.specs.Prelude.{Float}
use Rattle.std.specs.Float.{nan}
use Rattle.slot_walks.proofs.laws.LiveLaws.{live-one, live-none, live-room}
use Rattle.storage.proofs.laws.PutLaws.{rows-room, rows_next, rows_same}
use Rattle.box_clear.specs.Meaning.Clear.{box_at}
use Rattle.box_clear.proofs.put_boxes.Goals as goal
use Rattle.box_clear.proofs.put_boxes.Goals.{then-is_live, else-is_live}

-- a row of four numbers by its numbers
of_four : (row : List Float) → length row ≡ 4 → row ≡ get_or row 0 nan ∷ get_or row 1 nan ∷ get_or row 2 nan ∷ get_or row 3 nan ∷ []
of_four (a ∷ b ∷ c ∷ d ∷ []) e = refl
of_four [] e = absurd (omega arith)
of_four (a ∷ []) e = absurd (omega arith)
of_four (a ∷ b ∷ []) e = absurd (omega arith)
of_four (a ∷ b ∷ c ∷ []) e = absurd (omega arith)
of_four (a ∷ b ∷ c ∷ d ∷ x ∷ row) e = absurd (omega arith)

pub bounds-boxes-k : goal.bounds-boxes-k
bounds-boxes-k c =
    let r = live-room c.args.nums.now c.loop-i.i c.loop-i-test.true (sym c.is_live.ensures ∙ c.if-is_live.true) in
    rows-room c.loop-i.invariant.of_boxes c.requires.2 (omega arith)

pub bounds-objs-k : goal.bounds-objs-k
bounds-objs-k c =
    let r = live-room c.args.nums.now c.loop-i.i c.loop-i-test.true (sym c.is_live.ensures ∙ c.if-is_live.true) in
    rows-room c.loop-i.invariant.of_objs c.requires.3 (omega arith)

pub loop-i-preserved : goal.loop-i-preserved
loop-i-preserved c =
    let nums = c.args.nums.now in
    let i = c.loop-i.i in
    let h = c.loop-i-test.true in
    let v = c.loop-i.invariant in
    elim c.if-is_live.branch [
      | then-is_live w ↦
          let g = sym c.is_live.ensures ∙ w.if-is_live.true in
          let r = live-room nums i h g in
          let e = live-one nums i h g in
          let b : _ ≡ set c.loop-i.boxes c.loop-i.k (box_at c.args.reals.now i) = w.boxes-is ∙ ap (set c.loop-i.boxes c.loop-i.k) (search (rules, of_four)) in
          record {
            of_boxes = rows_next v.of_boxes i c.requires.2 (omega arith) e b w.k-is;
            of_objs = rows_next v.of_objs i c.requires.3 (omega arith) e w.objs-is w.k-is;
          }
      | else-is_live w ↦
          let e = live-none nums i h (sym c.is_live.ensures ∙ w.if-is_live.false) in
          record { of_boxes = rows_same v.of_boxes e w.boxes-is w.k-is; of_objs = rows_same v.of_objs e w.objs-is w.k-is }
    ]
