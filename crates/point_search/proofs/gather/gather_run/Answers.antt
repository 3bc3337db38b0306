-- Assumes nothing.
use Rattle.basics.specs.Words.{◌+◌, ◌≤◌, ◌≡◌, sym, ap, ◌∙◌, length, set, arith}
use Rattle.storage.specs.Meaning.Keyed.{written}
use Rattle.point_search.specs.Meaning.Searches.{passes}
use Rattle.point_search.specs.Inner.Places.{spot_passes}
use Rattle.point_search.proofs.laws.GatherLaws.{up_start, up_none, up-count, up-passed, up_room, up-written}
use Rattle.point_search.proofs.gather.gather_run.Goals as goal
use Rattle.point_search.proofs.gather.gather_run.Goals.{then-passes, else-passes}

pub loop-j-init : goal.loop-j-init
loop-j-init c =
    let a = c.args in
    let size : a.n ≤ length a.places.now = omega arith in
    (sym (up_start _ a.from a.n a.places.now size), sym (up_none _ a.from a.n a.places.now size))

pub bounds-places-k : goal.bounds-places-k
bounds-places-k c =
    let a = c.args in
    omega (arith, up_room (spot_passes a.test a.spots.now) a.from a.n a.places.now (omega arith) c.loop-j.j c.loop-j.auto.j (omega arith))

pub loop-j-preserved : goal.loop-j-preserved
loop-j-preserved c =
    let a = c.args in
    let l = c.loop-j in
    let t = spot_passes a.test a.spots.now in
    let size : a.n ≤ length a.places.now = omega arith in
    -- what the test says of the place at hand
    let tested : c.passes.result ≡ t l.j = c.passes.ensures ∙ ap (passes a.test) c.spot_at.ensures in
    elim c.if-passes.branch [
      | then-passes w ↦
          let e = sym tested ∙ w.if-passes.true in (
            w.k-is ∙ ap (λ n. n + 1) l.invariant.0 ∙ up-count t a.from a.n a.places.now size l.j l.auto.j e,
            w.places-is ∙ (λ z. set (l.invariant.1 z) (l.invariant.0 z) l.j) ∙ up-written t a.from a.n a.places.now size l.j l.auto.j (omega arith) e,
          )
      | else-passes w ↦
          let e = sym (up-passed t a.from a.n a.places.now size l.j l.auto.j (sym tested ∙ w.if-passes.false)) in
          (w.k-is ∙ l.invariant.0 ∙ ap length e, w.places-is ∙ l.invariant.1 ∙ ap (λ m. written m a.places.now) e)
    ]
