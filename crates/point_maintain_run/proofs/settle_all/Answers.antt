-- Each pass is asked for what the one before it left. Assumes nothing.
use Rattle.point_tables.specs.Meaning.Tables.{tables}
use Rattle.point_maintain_slots.proofs.laws.BareLaws.{holds_ready}
use Rattle.point_maintain_run.proofs.laws.Assembled.{put-room, in_pool, in_spots, few, sorted_front, named_back, used-inside, cells-room, assembled}
use Rattle.point_maintain_run.proofs.settle_all.Goals as goal

pub settle_slots-k-requires : goal.settle_slots-k-requires
settle_slots-k-requires c =
    let a = c.args in
    let w = c.sweep_lists-w.ensures in
    (holds_ready (tables a.nums.now a.reals.now a.ints.now a.map.now a.pool.now a.spots.now a.cells.now) c.requires, put-room c.requires w.0 w.1)

pub append_tail-requires : goal.append_tail-requires
append_tail-requires c =
    let w = c.sweep_lists-w.ensures in
    let k = c.settle_slots-k.ensures in (
      in_pool c.requires w.0 w.1 k,
      in_spots c.requires w.0 w.1 k,
      few c.requires w.0 w.1 k,
      sorted_front c.requires w.0 w.1 k,
      named_back c.requires w.0 w.1 k,
    )

pub rebuild-rows-requires : goal.rebuild-rows-requires
rebuild-rows-requires c =
    let w = c.sweep_lists-w.ensures in
    let k = c.settle_slots-k.ensures in
    (used-inside c.requires w.0 w.1 k c.append_tail.ensures, cells-room c.requires w.0 w.1 k c.append_tail.ensures)

pub returns : goal.returns
returns c =
    let w = c.sweep_lists-w.ensures in
    rw c.count.ensures (assembled c.requires w.0 w.1 c.settle_slots-k.ensures c.append_tail.ensures c.rebuild-rows.ensures)
