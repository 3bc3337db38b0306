-- Assumes nothing.
use Rattle.basics.specs.Words.{◌∙◌, arith}
use Rattle.storage.proofs.laws.TableMoveLaws.{at_within, enter_old, enter_new}
use Rattle.storage.proofs.Tests.{denied}
use Rattle.storage.proofs.table.enter_cell.Goals as goal

pub returns-then-is_key : goal.returns-then-is_key
returns-then-is_key c =
    let a = c.args in
    let l = c.lower_bound-at in
    let q = c.is_key.ensures.yes c.if-is_key.true in
    enter_old a.cells.now a.rows (omega arith) c.requires.1 a.key l.result l.ensures q.0 q.1

pub open-requires : goal.open-requires
open-requires c =
    let a = c.args in
    let l = c.lower_bound-at in
    (at_within a.cells.now a.rows (omega arith) c.requires.1 a.key l.result l.ensures, c.requires.0)

pub returns : goal.returns
returns c =
    let a = c.args in
    let l = c.lower_bound-at in
    let w = enter_new a.cells.now a.rows (omega arith) c.requires.1 a.key l.result l.ensures c.requires.0 (λ h i. denied c.is_key.ensures c.if-is_key.false (h, i)) in
    (w.0, c.open.ensures ∙ w.1)
