-- Assumes nothing.
use Rattle.basics.specs.Words.{sym, ◌∙◌, ne_eqb, eqb-false, arith}
use Rattle.point_search.specs.Meaning.Searches.{outputs}
use Rattle.trace_points.proofs.laws.NearLaws.{one-put}
use Rattle.trace_points.proofs.near.Goals as goal

pub returns : goal.returns
returns c =
    let handles = eqb-false _ 0 (sym c.is_empty.ensures ∙ c.if-is_empty.false) in
    let places = eqb-false _ 0 (sym c.is_empty-else-is_empty.ensures ∙ c.if-is_empty-2.false) in
    let objs = eqb-false _ 0 (sym c.is_empty-else-is_empty-2.ensures ∙ c.if-is_empty-3.false) in
    one-put c.args.r (outputs c.args.handles.now c.args.places.now c.args.objs.now) (ne_eqb _ 0 (λ e. omega arith)) c.if-count-eq0.false
