-- Assumes nothing.
use Rattle.basics.specs.Words.{◌<◌, refl, ap, get_or-take, length-take-le, arith}
use Rattle.slot_walks.specs.Meaning.Live.{handle_at}
use Rattle.storage.proofs.laws.PutLaws.{put_next}
use Rattle.box_search.proofs.put.put_handles.Goals as goal

pub loop-k-preserved : goal.loop-k-preserved
loop-k-preserved c =
    let a = c.args in
    let l = c.loop-k in
    let g = c.requires.0 in
    let h : l.k < a.n = omega (arith, length-take-le a.n a.found.now (omega (arith, g.most, g.size))) in
    put_next a.found.now l.invariant (omega (arith, g.most, g.size)) c.requires.1 h refl (ap (handle_at a.nums.now) (get_or-take a.n a.found.now l.k 0 h))
