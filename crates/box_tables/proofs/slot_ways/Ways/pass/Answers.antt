-- Assumes nothing.
use Rattle.basics.specs.Words.{◌<◌, ◌≡◌, refl, [], get_or, get_or-take, length-take-le, take, arith}
use Rattle.storage.specs.Meaning.Packed.{second}
use Rattle.box_tables.proofs.laws.PassLaws.{going_more, next-ordered, next-key}
use Rattle.box_tables.proofs.slot_ways.Ways.pass.Goals as goal
use Rattle.box_tables.proofs.slot_ways.Ways.pass.Goals.{In-loop-j, then-key-before-via-then-key-before, then-key-before-via-else-key-before+then-i-ge-ITEMS, then-key-before-via-else-key-before+else-i-ge-ITEMS+then-key-self}

within : (c : In-loop-j) → c.loop-j.j < c.args.used
within c = omega (arith, length-take-le c.args.used c.args.pool.now c.requires.in_pool)

-- the row is read from the part in use
row_is : (c : In-loop-j) → get_or (take c.args.used c.args.pool.now) c.loop-j.j [] ≡ get_or c.args.pool.now c.loop-j.j []
row_is c = get_or-take c.args.used c.args.pool.now c.loop-j.j [] (within c)

pub returns-then-key-before-clause-all : goal.returns-then-key-before-clause-all
returns-then-key-before-clause-all c v =
    let l = c.loop-j in
    let h = within (goal.at.returns-then-key-before-clause-all c).In-loop-j in
    let e = row_is (goal.at.returns-then-key-before-clause-all c).In-loop-j in
    elim c.then-key-before.branch [
      | then-key-before-via-then-key-before w ↦ absurd (omega (arith, rw e at w.if-key-before.true, next-ordered l.invariant c.requires.in_pool v h))
      | then-key-before-via-else-key-before+then-i-ge-ITEMS w ↦ absurd (omega (arith, rw e at w.if-i-ge-ITEMS.true, v.inside l.j h))
      | then-key-before-via-else-key-before+else-i-ge-ITEMS+then-key-self w ↦ absurd ((rw e at w.if-key-self.true) (next-key l.invariant c.requires.in_pool v h (second c.args.pool.now l.j) refl))
    ]

pub loop-j-preserved : goal.loop-j-preserved
loop-j-preserved c =
    let l = c.loop-j in
    let a = c.args in
    let h = within (goal.at.loop-j-preserved c).In-loop-j in
    let e = row_is (goal.at.loop-j-preserved c).In-loop-j in
    rw e
    (going_more l.invariant c.requires.steps (omega (arith, c.requires.in_pool)) (second a.pool.now l.j) refl (rw e at c.if-i-ge-ITEMS.false) (rw e at c.if-key-before.false) (rw e at c.if-key-self.false) c.next_on.result (rw e at c.next_on.ensures))
