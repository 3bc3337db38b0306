-- Assumes nothing.
use Rattle.basics.specs.Words.{ap, ◌∙◌}
use Rattle.box_tables.specs.Inner.Way.{span_of}
use Rattle.box_tables.specs.Meaning.Tables.{tables}
use Rattle.box_remove.proofs.Taken.{leave_asks, taken_is}
use Rattle.box_remove.proofs.take_out.Goals as goal

pub leave-left-requires : goal.leave-left-requires
leave-left-requires c =
    let a = c.args in
    leave_asks (tables a.nums.now a.reals.now a.map.now a.pool.now) a.s c.requires c.span_of-p.result (c.span_of-p.ensures ∙ ap (span_of _) c.load_box.ensures) c.item_of-item.result c.item_of-item.ensures

pub returns : goal.returns
returns c =
    let a = c.args in
    taken_is (tables a.nums.now a.reals.now a.map.now a.pool.now) a.s c.requires c.span_of-p.result (c.span_of-p.ensures ∙ ap (span_of _) c.load_box.ensures) c.item_of-item.result c.item_of-item.ensures
    c.leave-left.result _ _ _ c.leave-left.ensures c.empty.ensures.nums c.empty.ensures.map
