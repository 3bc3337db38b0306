-- Assumes nothing.
use Rattle.basics.specs.Words.{ℕ, ◌≡◌, sym, ap, ◌∙◌, subst, refl, arith}
use Rattle.basics.specs.Meaning.Answers.{number_of}
use Rattle.basics.specs.Meaning.Refusals.{first_of}
use Rattle.cells.specs.Meaning.CellRule.{cell_at}
use Rattle.point_tables.specs.Meaning.Tables.{tables, size_of}
use Rattle.point_search.specs.Meaning.Searches.{range_tests}
use Rattle.basics.proofs.laws.NumberLaws.{not_zero}
use Rattle.point_query.proofs.laws.CornerLaws.{around_reached}
use Rattle.point_nearest.specs.Meaning.Nearest.{nearest_reply, no_finding, nearest_tests}
use Rattle.point_nearest.specs.Inner.Told.{told_of, Tellable}
use Rattle.point_nearest.proofs.laws.AnswerLaws.{nearest-refused, nearest-done, passed_tests, walkable, told_is, tellable}
use Rattle.point_nearest.proofs.nearest_by_rings.Goals as goal

pub range_of-requires : goal.range_of-requires
range_of-requires c = let a = c.args in λ e. around_reached _ _ a.centre a.radius _ _ c.corner_below-ll.ensures c.corner_above-ur.ensures refl refl (sym c.circle_in_domain-ok.ensures ∙ e)

pub returns-in-Err : goal.returns-in-Err
returns-in-Err c =
    let a = c.args in
    let t = tables a.nums.now a.reals.now a.ints.now a.map.now a.pool.now a.spots.now a.cells.now in
    let answered : number_of c.in-Err.why ≡ first_of (nearest_tests t a.centre a.radius) = c.in-Err.ensures.answer ∙ (λ z. first_of (range_tests t (c.circle_in_domain-ok.ensures z) (c.corner_below-ll.ensures z) (c.corner_above-ur.ensures z))) in
    let e : c.none.result ≡ nearest_reply (number_of c.in-Err.why) 0 no_finding = c.none.ensures ∙ ap (λ (n : ℕ). nearest_reply n 0 no_finding) c.number.ensures in
    record {
      nearest = e ∙ nearest-refused t a.centre a.radius _ answered (not_zero c.in-Err.why);
      rings = λ z. absurd (not_zero c.in-Err.why (sym (ap (λ n. n.answer) e) ∙ z));
    }

pub bounds-map-1 : goal.bounds-map-1
bounds-map-1 c =
    let a = c.args in
    let t = tables a.nums.now a.reals.now a.ints.now a.map.now a.pool.now a.spots.now a.cells.now in
    let passed = passed_tests t a.centre a.radius (c.in-Ok.ensures.answer ∙ (λ z. first_of (range_tests t (c.circle_in_domain-ok.ensures z) (c.corner_below-ll.ensures z) (c.corner_above-ur.ensures z)))) in
    omega (arith, passed.0.sized.of_map)

pub bounds-map-0 : goal.bounds-map-0
bounds-map-0 c =
    let a = c.args in
    let t = tables a.nums.now a.reals.now a.ints.now a.map.now a.pool.now a.spots.now a.cells.now in
    let passed = passed_tests t a.centre a.radius (c.in-Ok.ensures.answer ∙ (λ z. first_of (range_tests t (c.circle_in_domain-ok.ensures z) (c.corner_below-ll.ensures z) (c.corner_above-ur.ensures z)))) in
    omega (arith, passed.0.sized.of_map)

pub walk-w-requires : goal.walk-w-requires
walk-w-requires c =
    let a = c.args in
    let t = tables a.nums.now a.reals.now a.ints.now a.map.now a.pool.now a.spots.now a.cells.now in
    let passed = passed_tests t a.centre a.radius (c.in-Ok.ensures.answer ∙ (λ z. first_of (range_tests t (c.circle_in_domain-ok.ensures z) (c.corner_below-ll.ensures z) (c.corner_above-ur.ensures z)))) in (
      walkable t passed.0 a.centre a.radius passed.1 passed.2,
      c.in-Ok.ensures.low ∙ ap (cell_at (size_of t)) c.corner_below-ll.ensures,
      c.in-Ok.ensures.high ∙ ap (cell_at (size_of t)) c.corner_above-ur.ensures,
    )

pub told-requires : goal.told-requires
told-requires c =
    let a = c.args in
    let t = tables a.nums.now a.reals.now a.ints.now a.map.now a.pool.now a.spots.now a.cells.now in
    let passed = passed_tests t a.centre a.radius (c.in-Ok.ensures.answer ∙ (λ z. first_of (range_tests t (c.circle_in_domain-ok.ensures z) (c.corner_below-ll.ensures z) (c.corner_above-ur.ensures z)))) in
    subst (Tellable a.nums.now a.pool.now a.spots.now) (sym c.walk-w.ensures.best) (tellable t passed.0 a.centre a.radius passed.1 passed.2)

pub returns-in-Ok : goal.returns-in-Ok
returns-in-Ok c =
    let a = c.args in
    let t = tables a.nums.now a.reals.now a.ints.now a.map.now a.pool.now a.spots.now a.cells.now in
    let done = c.in-Ok.ensures.answer ∙ (λ z. first_of (range_tests t (c.circle_in_domain-ok.ensures z) (c.corner_below-ll.ensures z) (c.corner_above-ur.ensures z))) in
    let passed = passed_tests t a.centre a.radius done in
    record {
      nearest = c.told.ensures
          ∙ ap (told_of a.nums.now a.pool.now a.spots.now) c.walk-w.ensures.best
          ∙ told_is t passed.0 a.centre a.radius passed.1 passed.2
          ∙ nearest-done t a.centre a.radius done;
      rings = λ z. c.walk-w.ensures.rings;
    }
