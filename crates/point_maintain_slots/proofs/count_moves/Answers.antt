-- The pair at hand is the two rows of the next slot. Assumes nothing.
use Rattle.basics.specs.Words.{◌+◌, ◌<◌, ◌≡◌, ◌∙◌, [], length, length-append, arith}
use Rattle.std.proofs.lemmas.Slice.Zip.{zip_turn}
use Rattle.point_maintain_slots.specs.Inner.Counts.{columns, moved_in, removed_in}
use Rattle.point_maintain_slots.proofs.Tags.{moved-next, removed-next, moved-most, removed-most}
use Rattle.point_maintain_slots.proofs.count_moves.Goals as goal

pub overflow_add-moved : goal.overflow_add-moved
overflow_add-moved c =
    let a = c.args in
    let z = zip_turn a.nums.now a.reals.now c.loop-n.yielded c.into_iter-n-iterator.result c.loop-n.n-iterator c.next.new.self _ (cc) (cc) c.loop-n.yielded_by (c.in-Some.n, c.in-Some.q) c.in-Some.is c.next.ensures.steps in
    let m = moved-next a.nums.now a.reals.now _ (z.2 []) c.tag_in-tag.ensures (z.3 []) c.loop-n.invariant.0 (c.from-moved.ensures ∙ c.has_moved.ensures) in
    omega (arith, z.0, m, moved-most a.nums.now a.reals.now (length c.loop-n.yielded + 1), c.requires.0)

-- one slot more
after : (c : goal.After-from-removed)
    → let i = length c.loop-n.yielded in let t = columns c.args.nums.now c.args.reals.now in
    (i < length c.args.nums.now) × (c.loop-n.moved + c.from-moved.result ≡ moved_in t (i + 1)) × (c.loop-n.removed + c.from-removed.result ≡ removed_in t (i + 1))
after c =
    let a = c.args in
    let z = zip_turn a.nums.now a.reals.now c.loop-n.yielded c.into_iter-n-iterator.result c.loop-n.n-iterator c.next.new.self _ (cc) (cc) c.loop-n.yielded_by (c.in-Some.n, c.in-Some.q) c.in-Some.is c.next.ensures.steps in (
      z.0,
      moved-next a.nums.now a.reals.now _ (z.2 []) c.tag_in-tag.ensures (z.3 []) c.loop-n.invariant.0 (c.from-moved.ensures ∙ c.has_moved.ensures),
      removed-next a.nums.now a.reals.now _ (z.2 []) c.tag_in-tag.ensures c.loop-n.invariant.1 (c.from-removed.ensures ∙ c.is_removed.ensures),
    )

pub overflow_add-removed : goal.overflow_add-removed
overflow_add-removed c = omega (arith, after c, removed-most c.args.nums.now c.args.reals.now (length c.loop-n.yielded + 1), c.requires.0)

pub loop-n-preserved : goal.loop-n-preserved
loop-n-preserved c = let m = after c in rw (length-append c.loop-n.yielded _) (m.1, m.2)
