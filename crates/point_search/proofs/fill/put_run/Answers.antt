-- Assumes nothing.
use Rattle.basics.specs.Words.{ℕ, ◌+◌, ◌-◌, ◌≡◌, sym, ap, ◌∙◌, List, [], ◌∷◌, length, length-append, arith}
use Rattle.point_records.specs.declared.Entry.{Entry}
use Rattle.point_search.specs.Meaning.Searches.{passes, handle_row, place_row, obj_row}
use Rattle.point_search.specs.Inner.Places.{spot_passes}
use Rattle.point_search.specs.Inner.Fill.{finding_of, handle_row_at, place_row_at, obj_row_at}
use Rattle.point_search.proofs.laws.PlacesLaws.{passed, passed-more, passed-same, places-length}
use Rattle.point_search.proofs.laws.RowLaws.{rows_none, rows_taken, rows-passed}
use Rattle.point_search.proofs.fill.put_run.Goals as goal
use Rattle.point_search.proofs.fill.put_run.Goals.{then-passes, else-passes}

pub loop-j-init : goal.loop-j-init
loop-j-init c =
    let a = c.args in
    let t = spot_passes a.test a.spots.now in (
      omega (arith, places-length t a.from (a.from - a.from)),
      rows_none (handle_row_at a.nums.now a.pool.now a.spots.now) t a.from a.n a.handles.now (omega arith),
      rows_none (place_row_at a.nums.now a.pool.now a.spots.now) t a.from a.n a.places.now (omega arith),
      rows_none (obj_row_at a.nums.now a.pool.now a.spots.now) t a.from a.n a.objs.now (omega arith),
    )

pub put_finding-requires : goal.put_finding-requires
put_finding-requires c =
    let a = c.args in
    let few = places-length (spot_passes a.test a.spots.now) a.from (c.loop-j.j - a.from) in
    (omega arith, omega arith, omega arith)

pub loop-j-preserved : goal.loop-j-preserved
loop-j-preserved c =
    let a = c.args in
    let l = c.loop-j in
    let v = l.invariant in
    let t = spot_passes a.test a.spots.now in
    let handle = handle_row_at a.nums.now a.pool.now a.spots.now in
    let place = place_row_at a.nums.now a.pool.now a.spots.now in
    let obj = obj_row_at a.nums.now a.pool.now a.spots.now in
    -- what the test says of the place at hand
    let tested : c.passes.result ≡ t l.j = c.passes.ensures ∙ ap (λ (e : Entry). passes a.test e.position) c.entry_at-e.ensures in
    elim c.if-passes.branch [
      | then-passes w ↦
          let y = sym tested ∙ w.if-passes.true in
          let f = w.finding_of.ensures ∙ ap (finding_of a.nums.now) c.entry_at-e.ensures in (
            omega (arith, w.k-is, v.0, ap length (passed-more t a.from l.j l.auto.j y) ∙ length-append (passed t a.from l.j) (l.j ∷ [])),
            w.handles-is ∙ w.put_finding.ensures.handles ∙ rows_taken handle t a.from a.n a.handles.now (omega arith) l.j l.k l.handles l.auto.j v.0 v.1 _ y (ap handle_row f) (omega arith),
            w.places-is ∙ w.put_finding.ensures.places ∙ rows_taken place t a.from a.n a.places.now (omega arith) l.j l.k l.places l.auto.j v.0 v.2 _ y (ap place_row f) (omega arith),
            w.objs-is ∙ w.put_finding.ensures.objs ∙ rows_taken obj t a.from a.n a.objs.now (omega arith) l.j l.k l.objs l.auto.j v.0 v.3 _ y (ap obj_row f) (omega arith),
          )
      | else-passes w ↦
          let y = sym tested ∙ w.if-passes.false in (
            w.k-is ∙ v.0 ∙ ap (λ (p : List ℕ). a.n + length p) (sym (passed-same t a.from l.j l.auto.j y)),
            w.handles-is ∙ rows-passed handle t a.from a.n a.handles.now (omega arith) l.j l.k l.handles l.auto.j v.0 v.1 y,
            w.places-is ∙ rows-passed place t a.from a.n a.places.now (omega arith) l.j l.k l.places l.auto.j v.0 v.2 y,
            w.objs-is ∙ rows-passed obj t a.from a.n a.objs.now (omega arith) l.j l.k l.objs l.auto.j v.0 v.3 y,
          )
    ]
