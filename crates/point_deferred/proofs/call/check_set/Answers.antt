-- Assumes nothing.
use Rattle.basics.specs.Words.{◌≡◌, sym, ◌∙◌, true, false, [], get_or, ne_eqb, arith}
use Rattle.std.proofs.lemmas.Result.{err_from_is_err_and}
use Rattle.basics.proofs.laws.NumberLaws.{not_zero}
use Rattle.geometry.specs.Meaning.Domain.{position_in_domain}
use Rattle.slots.proofs.laws.HandleLaws.{good_says}
use Rattle.point_records.specs.Meaning.Word.{tag_in}
use Rattle.point_records.specs.Meaning.Columns.{record_at}
use Rattle.point_records.specs.Meaning.States.{is_removed}
use Rattle.point_records.proofs.laws.OwnLaws.{own_refusal, own-passed}
use Rattle.point_deferred.specs.Inner.Held.{set_refusal}
use Rattle.point_deferred.proofs.laws.MovesLaws.{set_tests}
use Rattle.point_deferred.proofs.Shared.{above-two, up_to_two}
use Rattle.point_deferred.proofs.call.check_set.Goals as goal

pub returns-then-not-position_in_domain : goal.returns-then-not-position_in_domain
unfolding set_refusal
returns-then-not-position_in_domain c = simp (sym c.position_in_domain.ensures ∙ c.if-not-position_in_domain.true)

pub returns-in_err-check_own : goal.returns-in_err-check_own
unfolding set_refusal
returns-in_err-check_own c =
    let a = c.args in
    let p = err_from_is_err_and c.from_residual.result c.from_residual.ensures.1 in
    let near : position_in_domain a.at ≡ true = sym c.position_in_domain.ensures ∙ c.if-not-position_in_domain.false in
    let q = c.in_err-check_own.ensures in
    let n : own_refusal a.nums.now a.h a.tracker ≡ 0 → ⊥ = λ z. not_zero _ (q ∙ z) in
    rw (p.1, p.2) (rw (set_tests a.nums.now _ a.h a.at a.tracker, near, ne_eqb _ 0 n) q)

pub bounds-nums-h : goal.bounds-nums-h
bounds-nums-h c =
    let a = c.args in
    ((good_says a.nums.now a.h.slot a.h.version).yes (own-passed a.nums.now a.h a.tracker (sym c.in_ok-check_own.ensures)).is_good_lem).0

pub returns-then-tag_in-gt2 : goal.returns-then-tag_in-gt2
unfolding set_refusal
returns-then-tag_in-gt2 c =
    let a = c.args in
    let near : position_in_domain a.at ≡ true = sym c.position_in_domain.ensures ∙ c.if-not-position_in_domain.false in
    let passed : own_refusal a.nums.now a.h a.tracker ≡ 0 = sym c.in_ok-check_own.ensures in
    let e : is_removed (record_at a.nums.now a.reals.now a.ints.now a.h.slot).state ≡ true = above-two (tag_in (get_or a.nums.now a.h.slot [])) _ _ (omega (arith, c.tag_in.ensures, c.if-tag_in-gt2.true)) in
    rw (set_tests a.nums.now _ a.h a.at a.tracker, near, passed, e)

pub returns : goal.returns
unfolding set_refusal
returns c =
    let a = c.args in
    let near : position_in_domain a.at ≡ true = sym c.position_in_domain.ensures ∙ c.if-not-position_in_domain.false in
    let passed : own_refusal a.nums.now a.h a.tracker ≡ 0 = sym c.in_ok-check_own.ensures in
    let e : is_removed (record_at a.nums.now a.reals.now a.ints.now a.h.slot).state ≡ false = up_to_two (tag_in (get_or a.nums.now a.h.slot [])) _ _ (omega (arith, c.tag_in.ensures, c.if-tag_in-gt2.false)) in
    rw (set_tests a.nums.now _ a.h a.at a.tracker, near, passed, e)
