-- The answer is that of the two tests. Assumes nothing.
use Rattle.basics.specs.Words.{ap, ◌∙◌}
use Rattle.basics.proofs.laws.Says.{says_same}
use Rattle.basics.proofs.laws.AnswerLaws.{all_pass, one_refuses}
use Rattle.basics.specs.Meaning.Refusals.{first_of}
use Rattle.blank.specs.Meaning.Blank.{build_tests}
use Rattle.point_tables.specs.Meaning.Tables.{tables}
use Rattle.point_tables.specs.Meaning.Decide.{sized_says}
use Rattle.point_tables.specs.Meaning.Outcome.{outcome}
use Rattle.point_insert.specs.Meaning.New.{built, new_tests, new_of}
use Rattle.point_insert.proofs.building.new.Goals as goal

pub returns-in-Err : goal.returns-in-Err
unfolding new_of built
returns-in-Err c =
    let a = c.args in
    let t = tables a.nums.now a.reals.now a.ints.now a.map.now a.pool.now a.spots.now a.cells.now in
    let tests = c.in-Err.ensures ∙ ap (λ q. first_of (build_tests q a.size)) (says_same _ _ c.lengths_ok-sized.ensures (sized_says t)) in
    rw c.number.ensures (one_refuses (new_tests t a.size) (outcome 0 (built t a.size)) (λ n. outcome n t) c.in-Err.why tests)

pub returns : goal.returns
unfolding new_of built
returns c =
    let a = c.args in
    let t = tables a.nums.now a.reals.now a.ints.now a.map.now a.pool.now a.spots.now a.cells.now in
    let tests = c.in_default.ensures ∙ ap (λ q. first_of (build_tests q a.size)) (says_same _ _ c.lengths_ok-sized.ensures (sized_says t)) in
    (λ z. outcome 0 (tables (c.free_slots.ensures z) a.reals.now a.ints.now (c.new_map.ensures z) a.pool.now a.spots.now a.cells.now))
    ∙ all_pass (new_tests t a.size) (outcome 0 (built t a.size)) (λ n. outcome n t) tests
