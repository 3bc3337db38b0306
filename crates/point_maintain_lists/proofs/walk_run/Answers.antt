-- Assumes nothing.
use Rattle.basics.specs.Words.{refl, arith}
use Rattle.point_maintain_lists.proofs.laws.WalkingLaws.{walking_start, walking_done}
use Rattle.point_maintain_lists.proofs.Turns.{walk-within, walk-slot, walk-stays, walk-leaves}
use Rattle.point_maintain_lists.proofs.walk_run.Goals as goal

pub loop-i-init : goal.loop-i-init
loop-i-init c = walking_start c.requires.0

pub bounds-nums-s : goal.bounds-nums-s
bounds-nums-s c = walk-slot c.args.nums.now c.args.reals.now c.requires.0 c.loop-i.invariant c.loop-i-test.true c.requires.1

pub offset_bounds-nums-s : goal.offset_bounds-nums-s
offset_bounds-nums-s c = omega (arith, walk-slot c.args.nums.now c.args.reals.now c.requires.0 c.loop-i.invariant c.loop-i-test.true c.requires.1)

pub lay_spot-requires : goal.lay_spot-requires
lay_spot-requires c =
    let s = walk-slot c.args.nums.now c.args.reals.now c.requires.0 c.loop-i.invariant c.loop-i-test.true c.requires.1 in
    let w = walk-within c.requires.0 c.loop-i.invariant c.loop-i-test.true in
    (omega (arith, s, c.requires.1.as_many), omega (arith, w), omega (arith, w))

pub loop-i-preserved-then-tag-lt2 : goal.loop-i-preserved-then-tag-lt2
loop-i-preserved-then-tag-lt2 c =
    walk-stays c.args.nums.now c.args.reals.now c.requires.0 c.loop-i.invariant c.loop-i-test.true refl c.tag_in-tag.ensures c.if-tag-lt2.true c.lay_spot.ensures

pub loop-i-preserved : goal.loop-i-preserved
loop-i-preserved c = walk-leaves c.args.nums.now c.args.reals.now c.requires.0 c.loop-i.invariant c.loop-i-test.true refl c.tag_in-tag.ensures c.if-tag-lt2.false

pub returns : goal.returns
returns c = walking_done c.requires.0 c.loop-i.invariant c.loop-i-test.false
