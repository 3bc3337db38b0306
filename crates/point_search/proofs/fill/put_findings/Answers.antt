-- Assumes nothing.
use Rattle.basics.specs.Words.{◌≡◌, ap, ◌∙◌, get_or}
use Rattle.point_search.specs.Meaning.Searches.{handle_row, place_row, obj_row}
use Rattle.point_search.specs.Inner.Fill.{finding_of, finding_at}
use Rattle.storage.proofs.laws.PutLaws.{put_next}
use Rattle.point_search.proofs.fill.put_findings.Goals as goal

pub loop-k-preserved : goal.loop-k-preserved
loop-k-preserved c =
    let a = c.args in
    let found = a.found.now in
    let v = c.loop-k.invariant in
    let room = c.requires.1 in
    let h = c.loop-k-test.true in
    let f : c.finding_of.result ≡ finding_at a.nums.now a.pool.now a.spots.now (get_or found c.loop-k.k 0) = c.finding_of.ensures ∙ ap (finding_of a.nums.now) c.entry_at-e.ensures in (
      put_next found v.0 c.requires.0.0 room.0 h c.put_finding.ensures.handles (ap handle_row f),
      put_next found v.1 c.requires.0.0 room.1 h c.put_finding.ensures.places (ap place_row f),
      put_next found v.2 c.requires.0.0 room.2 h c.put_finding.ensures.objs (ap obj_row f),
    )
