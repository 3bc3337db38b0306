-- Assumes nothing.
use Rattle.basics.specs.Words.{sym, ◌∙◌, length-take-le, arith}
use Rattle.point_search.specs.Meaning.Searches.{outputs, findings}
use Rattle.point_search.proofs.laws.FillLaws.{filled_9, filled_put}
use Rattle.replies.specs.Meaning.Replies.{count}
use Rattle.point_search.proofs.fill.report.Goals as goal

pub returns-then-room-r : goal.returns-then-room-r
returns-then-room-r c =
    let a = c.args in
    let lent = outputs a.handles.now a.places.now a.objs.now in
    let number = sym (length-take-le a.r a.found.now c.requires.0.0) in
    (λ z. findings (count (c.number.ensures z) (number z)) lent) ∙ filled_9 a.nums.now a.pool.now a.spots.now _ lent (omega (arith, number))

pub returns : goal.returns
returns c =
    let a = c.args in
    filled_put a.nums.now a.pool.now a.spots.now _ (outputs a.handles.now a.places.now a.objs.now) a.r _ (sym (length-take-le a.r a.found.now c.requires.0.0)) c.put_findings.ensures (omega arith)
