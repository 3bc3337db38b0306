-- Assumes nothing.
use Rattle.storage.proofs.laws.RebuildLaws.{built-none, built-room, built-more, built-same}
use Rattle.storage.proofs.Tests.{denied}
use Rattle.storage.proofs.table.rebuild.Goals as goal
use Rattle.storage.proofs.table.rebuild.Goals.{then-begins, else-begins}

pub loop-j-init : goal.loop-j-init
loop-j-init c = built-none c.args.cells.now c.args.pool.now c.args.used c.requires.0 c.requires.1

-- there is room for a row
pub bounds-cells-rows : goal.bounds-cells-rows
bounds-cells-rows c =
    let a = c.args in
    let l = c.loop-j in
    built-room a.cells.now a.pool.now a.used c.requires.0 c.requires.1 l.j l.rows l.cells c.loop-j-test.true l.invariant (c.begins.ensures.yes c.if-begins.true)

pub loop-j-preserved : goal.loop-j-preserved
loop-j-preserved c =
    let a = c.args in
    let l = c.loop-j in
    let o = c.begins.ensures in
    elim c.if-begins.branch [
      | then-begins w ↦
          rw (w.rows-is, w.cells-is, w.key_at.ensures) (built-more a.cells.now a.pool.now a.used c.requires.0 c.requires.1 l.j l.rows l.cells c.loop-j-test.true l.invariant (o.yes w.if-begins.true))
      | else-begins w ↦
          rw (w.rows-is, w.cells-is) (built-same a.cells.now a.pool.now a.used c.requires.0 c.requires.1 l.j l.rows l.cells c.loop-j-test.true l.invariant (denied o w.if-begins.false))
    ]
