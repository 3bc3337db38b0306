-- Assumes nothing.
use Rattle.basics.specs.Words.{ℕ, ◌<◌, ◌≤◌, ◌≡◌, false, [], arith}
use Rattle.cells.specs.Inner.Key.{column_of, line_of}
use Rattle.storage.specs.Meaning.Entries.{row_key}
use Rattle.storage.specs.Meaning.Packed.{first}
use Rattle.storage.specs.Inner.Window.{in_range}
use Rattle.storage.proofs.laws.FilterLaws.{by_order}
use Rattle.storage.proofs.laws.CutLaws.{low_of, most_of}
use Rattle.storage.proofs.laws.RunLaws.{skip, behind}
use Rattle.storage.proofs.walk.first_in.Goals as goal

-- past the range's last key there is nothing
pub returns-then-high-key : goal.returns-then-high-key
returns-then-high-key c =
    let a = c.args in
    let l = c.loop-p in
    let past : (j : ℕ) → l.p ≤ j → j < a.used → in_range a.low a.high (first a.pool.now j) ≡ false =
    behind a.pool.now a.used c.requires.1 c.requires.2 (column_of a.low) (line_of a.low) (column_of a.high) (line_of a.high) l.p (omega arith) (omega arith) in
    record {
      onward = omega arith;
      within = omega arith;
      passed = λ j p q. by_order j l.p (λ w. l.invariant.2 j p w) (λ w. past j (omega arith) q) (λ w. past j (omega arith) q);
      here = λ h. absurd (omega arith);
    }

-- the place moves on
pub lower_bound_from-p-requires : goal.lower_bound_from-p-requires
lower_bound_from-p-requires c =
    let a = c.args in
    let n = c.next_key-next in
    let on = low_of row_key n.result [] a.pool.now a.used c.requires.1 c.requires.2 c.loop-p.p c.loop-p-test.true (omega (arith, n.ensures.onward)) in
    (c.requires.1, c.requires.2, omega arith)

pub loop-p-smaller : goal.loop-p-smaller
loop-p-smaller c =
    let a = c.args in
    let n = c.next_key-next in
    omega (arith, low_of row_key n.result [] a.pool.now a.used c.requires.1 c.requires.2 c.loop-p.p c.loop-p-test.true (omega (arith, n.ensures.onward)))

pub loop-p-preserved : goal.loop-p-preserved
loop-p-preserved c =
    let a = c.args in
    let l = c.loop-p in
    let n = c.next_key-next in
    let on = low_of row_key n.result [] a.pool.now a.used c.requires.1 c.requires.2 l.p c.loop-p-test.true (omega (arith, n.ensures.onward)) in
    let most = most_of row_key n.result [] a.pool.now a.used c.requires.1 c.requires.2 in
    let past : (j : ℕ) → l.p ≤ j → j < c.lower_bound_from-p.result → in_range a.low a.high (first a.pool.now j) ≡ false = λ j p q.
    skip a.pool.now a.used c.requires.1 c.requires.2 (column_of a.low) (line_of a.low) (column_of a.high) (line_of a.high) l.p n.result (rw c.key_at-key.ensures at n.ensures) j p (omega arith) in
    (omega arith, omega arith, λ j p q. by_order j l.p (λ w. l.invariant.2 j p w) (λ w. past j (omega arith) q) (λ w. past j (omega arith) q))
