-- Assumes nothing.
use Rattle.basics.specs.Words.{take}
use Rattle.storage.specs.Meaning.Entries.{row_key}
use Rattle.storage.proofs.laws.TableLaws.{rising-sorted}
use Rattle.storage.proofs.laws.TableMoveLaws.{mark_old, mark-none}
use Rattle.storage.proofs.Tests.{denied}
use Rattle.storage.proofs.table.mark_cell.Goals as goal

pub lower_bound-at-requires : goal.lower_bound-at-requires
lower_bound-at-requires c = (c.requires.0, rising-sorted row_key (take c.args.rows c.args.cells.now) c.requires.1)

pub returns-then-is_key : goal.returns-then-is_key
returns-then-is_key c =
    let a = c.args in
    let l = c.lower_bound-at in
    let q = c.is_key.ensures.yes c.if-is_key.true in
    mark_old a.cells.now a.rows c.requires.0 c.requires.1 a.key l.result l.ensures q.0 q.1

pub returns-else-is_key : goal.returns-else-is_key
returns-else-is_key c =
    let a = c.args in
    let l = c.lower_bound-at in
    mark-none a.cells.now a.rows c.requires.0 c.requires.1 a.key l.result l.ensures (λ h i. denied c.is_key.ensures c.if-is_key.false (h, i))
