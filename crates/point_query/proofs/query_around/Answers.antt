-- Assumes nothing.
use Rattle.basics.specs.Words.{sym, ap, ◌∙◌, Bool, refl}
use Rattle.geometry.specs.Meaning.Domain.{position_in_domain, radius_in_domain}
use Rattle.point_tables.specs.Meaning.Tables.{tables}
use Rattle.point_search.specs.declared.Test.TheVariants.{Circle}
use Rattle.point_search.specs.Meaning.Searches.{outputs, search_of}
use Rattle.point_query.proofs.laws.CornerLaws.{around_reached, around_is}
use Rattle.point_query.proofs.query_around.Goals as goal

pub search-requires : goal.search-requires
search-requires c = let a = c.args in λ e. around_reached _ _ a.centre a.radius _ _ c.corner_below-ll.ensures c.corner_above-ur.ensures refl refl (sym c.circle_in_domain-ok.ensures ∙ e)

pub returns : goal.returns
returns c =
    let a = c.args in
    let t = tables a.nums.now a.reals.now a.ints.now a.map.now a.pool.now a.spots.now a.cells.now in
    let o = outputs a.found.now a.places.now a.objs.now in
    around_is (position_in_domain a.centre) (radius_in_domain a.radius) t o _ a.centre a.radius _ _ c.corner_below-ll.ensures c.corner_above-ur.ensures refl refl
    (c.search.ensures ∙ ap (λ (b : Bool). search_of t b c.corner_below-ll.result c.corner_above-ur.result (Circle a.centre a.radius) o) c.circle_in_domain-ok.ensures)
