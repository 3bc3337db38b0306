-- Assumes nothing.
use Rattle.basics.specs.Words.{◌+◌, sym, ◌∙◌, ap, [], set, arith}
use Rattle.slot_walks.specs.Meaning.Live.{handle_at}
use Rattle.slot_walks.proofs.laws.FillLaws.{filled-room, filled_next, filled-same, one_more, as_many}
use Rattle.slot_walks.proofs.put_handles.Goals as goal
use Rattle.slot_walks.proofs.put_handles.Goals.{then-is_live, else-is_live}

-- the slot at hand is live: there is room for its handle
pub bounds-out-k : goal.bounds-out-k
bounds-out-k c =
    let a = c.args in
    let l = c.loop-i in
    omega (arith, filled-room [] (handle_at a.nums.now) a.nums.now a.out.now c.requires.1 l.i c.loop-i-test.true (sym c.is_live.ensures ∙ c.if-is_live.true))

pub loop-i-preserved : goal.loop-i-preserved
loop-i-preserved c =
    let ns = c.args.nums.now in
    let out = c.args.out.now in
    let l = c.loop-i in
    let h = c.loop-i-test.true in
    let f = handle_at ns in
    elim c.if-is_live.branch [
      | then-is_live w ↦
          let e = sym c.is_live.ensures ∙ w.if-is_live.true in
          (w.k-is ∙ ap (λ n. n + 1) l.invariant.0 ∙ one_more ns l.i h e, w.out-is ∙ (λ z. set (l.invariant.1 z) (l.invariant.0 z) (f l.i)) ∙ filled_next [] f ns out c.requires.1 l.i h e)
      | else-is_live w ↦
          let e = sym c.is_live.ensures ∙ w.if-is_live.false in
          (w.k-is ∙ l.invariant.0 ∙ as_many ns l.i h e, w.out-is ∙ l.invariant.1 ∙ filled-same [] f ns out c.requires.1 l.i h e)
    ]
