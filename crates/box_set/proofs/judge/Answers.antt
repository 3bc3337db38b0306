-- Assumes nothing.
use Rattle.basics.specs.Words.{◌≡◌, sym, ap, ◌∙◌, true, arith}
use Rattle.std.proofs.lemmas.Result.{err_from_is_err_and}
use Rattle.basics.proofs.laws.Says.{says_t}
use Rattle.geometry.specs.declared.Aabb.{Aabb}
use Rattle.geometry.specs.Meaning.Domain.{aabb_in_domain}
use Rattle.slots.specs.declared.Handle.{Handle}
use Rattle.slots.specs.Meaning.Slot.{handle_refusal}
use Rattle.slots.proofs.laws.HandleLaws.{not_refused}
use Rattle.box_tables.specs.Meaning.Tables.{Tables, tables}
use Rattle.box_tables.specs.Meaning.Decide.{holds, holds_says}
use Rattle.box_tables.specs.Inner.Way.{span_of}
use Rattle.box_set.specs.Inner.Steps.{old_span}
use Rattle.box_set.proofs.Answers.{Passed, slot-inside, old_inside, used-small, room_small, told_3, told_6, told_lost, told_7, told_8, told_0}
use Rattle.box_set.proofs.judge.Goals as goal

-- past the tests of the tables, the box and the handle
passed : (t : Tables) (h : Handle) (b : Aabb) → holds t ≡ true → aabb_in_domain b ≡ true → 0 ≡ handle_refusal t.nums h → Passed t h b
passed t h b e i z = record { held = e; inside = i; good = not_refused t.nums h (sym z) }

pub returns-then-not-check : goal.returns-then-not-check
returns-then-not-check c = told_3 (sym c.check.ensures ∙ c.if-not-check.true)

pub returns-then-not-aabb_in_domain : goal.returns-then-not-aabb_in_domain
returns-then-not-aabb_in_domain c = told_6 (sym c.check.ensures ∙ c.if-not-check.false) (sym c.aabb_in_domain.ensures ∙ c.if-not-aabb_in_domain.true)

pub returns-in_err-check_handle : goal.returns-in_err-check_handle
returns-in_err-check_handle c =
    let p = err_from_is_err_and c.from_residual.result c.from_residual.ensures.1 in
    rw (p.1, p.2) (told_lost _ (sym c.check.ensures ∙ c.if-not-check.false) (sym c.aabb_in_domain.ensures ∙ c.if-not-aabb_in_domain.false) c.in_err-check_handle.ensures)

pub bounds-map-0 : goal.bounds-map-0
bounds-map-0 c =
    let a = c.args in
    omega (arith, ((holds_says (tables a.nums.now a.reals.now a.map.now a.pool.now)).yes (sym c.check.ensures ∙ c.if-not-check.false)).sized.of_map)

pub span_of-new-requires : goal.span_of-new-requires
span_of-new-requires c =
    let a = c.args in
    (((holds_says (tables a.nums.now a.reals.now a.map.now a.pool.now)).yes (sym c.check.ensures ∙ c.if-not-check.false)).counted.size, (says_t _).yes (sym c.aabb_in_domain.ensures ∙ c.if-not-aabb_in_domain.false))

pub returns-then-n-gt-MOST_CELLS : goal.returns-then-n-gt-MOST_CELLS
returns-then-n-gt-MOST_CELLS c =
    let a = c.args in
    told_7 (passed (tables a.nums.now a.reals.now a.map.now a.pool.now) a.h a.b (sym c.check.ensures ∙ c.if-not-check.false) (sym c.aabb_in_domain.ensures ∙ c.if-not-aabb_in_domain.false) c.in_ok-check_handle.ensures) c.span_of-new.ensures c.if-n-gt-MOST_CELLS.true

pub load_box-there-requires : goal.load_box-there-requires
load_box-there-requires c =
    let a = c.args in
    slot-inside (passed (tables a.nums.now a.reals.now a.map.now a.pool.now) a.h a.b (sym c.check.ensures ∙ c.if-not-check.false) (sym c.aabb_in_domain.ensures ∙ c.if-not-aabb_in_domain.false) c.in_ok-check_handle.ensures)

pub bounds-map-0-2 : goal.bounds-map-0-2
bounds-map-0-2 c =
    let a = c.args in
    omega (arith, ((holds_says (tables a.nums.now a.reals.now a.map.now a.pool.now)).yes (sym c.check.ensures ∙ c.if-not-check.false)).sized.of_map)

pub span_of-old-requires : goal.span_of-old-requires
span_of-old-requires c =
    let a = c.args in
    let e = sym c.check.ensures ∙ c.if-not-check.false in
    let w = passed (tables a.nums.now a.reals.now a.map.now a.pool.now) a.h a.b e (sym c.aabb_in_domain.ensures ∙ c.if-not-aabb_in_domain.false) c.in_ok-check_handle.ensures in
    (((holds_says (tables a.nums.now a.reals.now a.map.now a.pool.now)).yes e).counted.size, rw c.load_box-there.ensures (old_inside w))

pub bounds-map-1 : goal.bounds-map-1
bounds-map-1 c =
    let a = c.args in
    omega (arith, ((holds_says (tables a.nums.now a.reals.now a.map.now a.pool.now)).yes (sym c.check.ensures ∙ c.if-not-check.false)).sized.of_map)

pub overflow_add-map : goal.overflow_add-map
overflow_add-map c =
    let a = c.args in
    let w = passed (tables a.nums.now a.reals.now a.map.now a.pool.now) a.h a.b (sym c.check.ensures ∙ c.if-not-check.false) (sym c.aabb_in_domain.ensures ∙ c.if-not-aabb_in_domain.false) c.in_ok-check_handle.ensures in
    record { fits = omega (arith, used-small w c.span_of-new.ensures c.if-n-gt-MOST_CELLS.false) }

pub overflow_add-pool : goal.overflow_add-pool
overflow_add-pool c =
    let a = c.args in
    let w = passed (tables a.nums.now a.reals.now a.map.now a.pool.now) a.h a.b (sym c.check.ensures ∙ c.if-not-check.false) (sym c.aabb_in_domain.ensures ∙ c.if-not-aabb_in_domain.false) c.in_ok-check_handle.ensures in
    let o : c.span_of-old.result ≡ old_span a.reals.now a.map.now a.h.slot = c.span_of-old.ensures ∙ ap (span_of _) c.load_box-there.ensures in
    record { fits = omega (arith, room_small w o) }

pub returns-then-map-n : goal.returns-then-map-n
returns-then-map-n c =
    let a = c.args in
    let w = passed (tables a.nums.now a.reals.now a.map.now a.pool.now) a.h a.b (sym c.check.ensures ∙ c.if-not-check.false) (sym c.aabb_in_domain.ensures ∙ c.if-not-aabb_in_domain.false) c.in_ok-check_handle.ensures in
    told_8 w c.span_of-new.ensures c.if-n-gt-MOST_CELLS.false (c.span_of-old.ensures ∙ ap (span_of _) c.load_box-there.ensures) c.if-map-n.true

pub returns : goal.returns
returns c =
    let a = c.args in
    let w = passed (tables a.nums.now a.reals.now a.map.now a.pool.now) a.h a.b (sym c.check.ensures ∙ c.if-not-check.false) (sym c.aabb_in_domain.ensures ∙ c.if-not-aabb_in_domain.false) c.in_ok-check_handle.ensures in
    told_0 w c.span_of-new.ensures c.if-n-gt-MOST_CELLS.false (c.span_of-old.ensures ∙ ap (span_of _) c.load_box-there.ensures) c.if-map-n.false
