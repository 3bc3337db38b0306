-- Assumes nothing.
use Rattle.basics.specs.Words.{refl, sym, ap, ◌∙◌, subst, arith}
use Rattle.basics.specs.Meaning.Answers.{number_of}
use Rattle.cells.specs.Inner.Numbers.{Near}
use Rattle.cells.proofs.laws.CellRuleLaws.{cell-near}
use Rattle.point_tables.specs.Meaning.Tables.{tables, size_of}
use Rattle.point_tables.specs.Meaning.Decide.{holds_says}
use Rattle.replies.specs.declared.Count.{Count}
use Rattle.point_search.specs.Meaning.Searches.{outputs, findings}
use Rattle.basics.proofs.laws.NumberLaws.{not_zero}
use Rattle.point_search.proofs.laws.FindLaws.{range_passed, range_refused}
use Rattle.point_search.proofs.laws.FillLaws.{stocked, findable, search_done}
use Rattle.point_search.proofs.search.Goals as goal

pub bounds-map-1 : goal.bounds-map-1
bounds-map-1 c =
    let a = c.args in
    let t = tables a.nums.now a.reals.now a.ints.now a.map.now a.pool.now a.spots.now a.cells.now in
    let h = (holds_says t).yes (range_passed t a.ok a.ll a.ur c.in-Ok.ensures.answer).0 in
    omega (arith, h.sized.of_map)

pub fill-requires : goal.fill-requires
fill-requires c =
    let a = c.args in
    let t = tables a.nums.now a.reals.now a.ints.now a.map.now a.pool.now a.spots.now a.cells.now in
    let p = range_passed t a.ok a.ll a.ur c.in-Ok.ensures.answer in
    let h = (holds_says t).yes p.0 in
    let reached = c.requires p.1 in (
      stocked t h,
      subst Near (sym c.in-Ok.ensures.low) (cell-near (size_of t) a.ll reached.0),
      subst Near (sym c.in-Ok.ensures.high) (cell-near (size_of t) a.ur reached.1),
      h.sized.most,
      findable t h,
    )

pub returns-in-Ok : goal.returns-in-Ok
returns-in-Ok c =
    let a = c.args in
    let t = tables a.nums.now a.reals.now a.ints.now a.map.now a.pool.now a.spots.now a.cells.now in
    let p = range_passed t a.ok a.ll a.ur c.in-Ok.ensures.answer in
    let reached = c.requires p.1 in
    let r = c.in-Ok.field-0 in
    search_done t a.ok a.ll a.ur a.test (outputs a.handles.now a.places.now a.objs.now) p.0 reached.0 reached.1
    (findings c.fill.result (outputs c.fill.new.handles c.fill.new.places c.fill.new.objs)) r.a r.b _ c.in-Ok.ensures.low c.in-Ok.ensures.high refl c.fill.ensures p.1 p.2

pub returns-in-Err : goal.returns-in-Err
returns-in-Err c =
    let a = c.args in
    let t = tables a.nums.now a.reals.now a.ints.now a.map.now a.pool.now a.spots.now a.cells.now in
    let o = outputs a.handles.now a.places.now a.objs.now in
    ap (λ (k : Count). findings k o) c.from.ensures ∙ range_refused t a.ok a.ll a.ur a.test o (number_of c.in-Err.why) c.in-Err.ensures.answer (not_zero c.in-Err.why)
