-- The counts are those of the tables at entry. Assumes nothing.
use Rattle.basics.specs.Words.{◌≡◌, sym, ap, ◌∙◌, false}
use Rattle.basics.proofs.laws.Says.{apart}
use Rattle.point_tables.specs.Meaning.Tables.{tables, slots_of}
use Rattle.point_tables.specs.Meaning.Holds.{Holds}
use Rattle.point_tables.specs.Meaning.Decide.{holds, holds_says}
use Rattle.point_tables.specs.Meaning.Outcome.{outcome}
use Rattle.point_maintain.specs.Meaning.Maintain.{maintained_counts}
use Rattle.point_maintain.proofs.laws.SettledForm.{maintained_is}
use Rattle.point_maintain.proofs.laws.MaintainLaws.{maintain-done, maintain-refused}
use Rattle.point_maintain_slots.proofs.laws.CountsLaws.{moved-columns, removed-columns}
use Rattle.point_maintain_run.proofs.maintain.Goals as goal

pub returns-then-not-check : goal.returns-then-not-check
returns-then-not-check c =
    let a = c.args in
    let t = tables a.nums.now a.reals.now a.ints.now a.map.now a.pool.now a.spots.now a.cells.now in
    let no : holds t ≡ false = sym c.check.ensures ∙ c.if-not-check.true in
    rw c.number.ensures (sym (maintain-refused t (λ h. apart (sym no ∙ (holds_says t).no h))))

pub count_moves-c-requires : goal.count_moves-c-requires
count_moves-c-requires c =
    let a = c.args in
    let h = (holds_says (tables a.nums.now a.reals.now a.ints.now a.map.now a.pool.now a.spots.now a.cells.now)).yes (sym c.check.ensures ∙ c.if-not-check.false) in
    (h.sized.most, h.sized.of_reals)

pub settle_all-requires : goal.settle_all-requires
settle_all-requires c =
    let a = c.args in
    (holds_says (tables a.nums.now a.reals.now a.ints.now a.map.now a.pool.now a.spots.now a.cells.now)).yes (sym c.check.ensures ∙ c.if-not-check.false)

pub returns : goal.returns
returns c =
    let a = c.args in
    let t = tables a.nums.now a.reals.now a.ints.now a.map.now a.pool.now a.spots.now a.cells.now in
    let h : Holds t = (holds_says t).yes (sym c.check.ensures ∙ c.if-not-check.false) in
    let n = c.count_moves-c.ensures in
    (λ z.
    outcome (maintained_counts 0 ((ap (λ k. k.moved) n ∙ moved-columns t (slots_of t)) z) ((ap (λ k. k.removed) n ∙ removed-columns t (slots_of t)) z))
    ((c.settle_all.ensures ∙ sym (maintained_is t h)) z))
    ∙ sym (maintain-done t h)
