-- Case by case. Assumes nothing.
use Rattle.basics.specs.Words.{arith}
use Rattle.cells.specs.Inner.Key.{column_of, line_of}
use Rattle.storage.proofs.laws.RunLaws.{next-below, next-left, next-right, next_here, inside}
use Rattle.storage.proofs.walk.next_key.Goals as goal

pub returns-then-y-low : goal.returns-then-y-low
returns-then-y-low c =
    let a = c.args in
    next-below (column_of a.low) (line_of a.low) (column_of a.high) (line_of a.high) a.key a.low (omega arith) c.if-y-low.true (omega arith)

pub returns-then-x-start : goal.returns-then-x-start
returns-then-x-start c =
    let a = c.args in
    next-left (column_of a.low) (line_of a.low) (column_of a.high) (line_of a.high) a.key c.if-x-start.true (omega arith)

pub returns-then-high-x : goal.returns-then-high-x
returns-then-high-x c =
    let a = c.args in
    next-right (column_of a.low) (line_of a.low) (column_of a.high) (line_of a.high) a.key c.if-high-x.true (omega arith)

pub returns : goal.returns
returns c =
    let a = c.args in
    next_here (column_of a.low) (line_of a.low) (column_of a.high) (line_of a.high) a.key
    (inside (column_of a.low) (line_of a.low) (column_of a.high) (line_of a.high) a.key (omega arith) (omega arith) (omega arith) (omega arith))
