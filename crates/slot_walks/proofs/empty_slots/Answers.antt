-- Assumes nothing.
use Rattle.basics.specs.Words.{sym, ◌∙◌}
use Rattle.slot_walks.proofs.laws.ClearedLaws.{turn_live, turn_idle}
use Rattle.slot_walks.proofs.empty_slots.Goals as goal
use Rattle.slot_walks.proofs.empty_slots.Goals.{then-is_live, else-is_live}

pub loop-i-preserved : goal.loop-i-preserved
loop-i-preserved c =
    let ns = c.args.nums.now in
    let m = c.args.map.now in
    let l = c.loop-i in
    let n = c.loop-i-test.true in
    let e = sym c.is_live.ensures in
    elim c.if-is_live.branch [
      | then-is_live w ↦
          turn_live ns m l.i n l.nums l.map l.invariant.0 l.invariant.1 (e ∙ w.if-is_live.true) c.if-is_live.nums c.if-is_live.map (w.nums-is ∙ w.empty.ensures.nums) (w.map-is ∙ w.empty.ensures.map)
      | else-is_live w ↦
          let k = turn_idle ns m l.i n l.nums l.map l.invariant.0 l.invariant.1 (e ∙ w.if-is_live.false) in
          (w.nums-is ∙ k.0, w.map-is ∙ k.1)
    ]
