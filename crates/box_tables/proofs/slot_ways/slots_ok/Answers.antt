-- Assumes nothing.
use Rattle.basics.specs.Words.{sym, subst, get_or, arith}
use borrow.Author.Count.{below_more}
use Rattle.box_tables.proofs.laws.WayLaws.{Bounded, slot_bounded}
use Rattle.box_tables.proofs.Shared.{item_of_slot, ways_more}
use Rattle.box_tables.proofs.slot_ways.slots_ok.Goals as goal

pub put-requires : goal.put-requires
put-requires c =
    let a = c.args in
    let g = c.in-Some.ensures in
    let b = subst Bounded (sym g.1) (slot_bounded a.nums.now a.reals.now (get_or a.map.now 0 0) c.loop-s.s c.requires.0.size.0 (λ p. (g.0.if_live p).within_domain)) in
    (omega (arith, item_of_slot a.nums.now a.reals.now (get_or a.map.now 0 0) c.loop-s.s c.in-Some.way g.1, c.requires.0.most), omega (arith, b.last, b.jump))

pub loop-s-preserved : goal.loop-s-preserved
loop-s-preserved c =
    let a = c.args in
    let l = c.loop-s in
    let g = c.in-Some.ensures in
    (rw c.put.ensures (ways_more a.nums.now a.reals.now (get_or a.map.now 0 0) l.s c.in-Some.way g.1 l.ways (omega (arith, c.requires.0.most)) l.invariant.0), below_more _ _ l.invariant.1 g.0)
