-- Assumes nothing.
use Rattle.basics.specs.Words.{sym, ap, ◌∙◌, Bool, refl}
use Rattle.geometry.specs.Meaning.Domain.{position_in_domain}
use Rattle.point_tables.specs.Meaning.Tables.{tables}
use Rattle.point_search.specs.declared.Test.TheVariants.{Rectangle}
use Rattle.point_search.specs.Meaning.Searches.{outputs, search_of}
use Rattle.point_query.proofs.laws.CornerLaws.{aabb_reached, aabb_is}
use Rattle.point_query.proofs.query_aabb.Goals as goal

pub search-requires : goal.search-requires
search-requires c = let a = c.args in λ e. aabb_reached _ _ a.a a.b _ _ c.lower_corner-ll.ensures c.upper_corner-ur.ensures refl refl (sym c.corners_in_domain-ok.ensures ∙ e)

pub returns : goal.returns
returns c =
    let a = c.args in
    let t = tables a.nums.now a.reals.now a.ints.now a.map.now a.pool.now a.spots.now a.cells.now in
    let o = outputs a.found.now a.places.now a.objs.now in
    aabb_is (position_in_domain a.a) (position_in_domain a.b) t o _ a.a a.b _ _ c.lower_corner-ll.ensures c.upper_corner-ur.ensures refl refl
    (c.search.ensures ∙ ap (λ (b : Bool). search_of t b c.lower_corner-ll.result c.upper_corner-ur.result (Rectangle c.lower_corner-ll.result c.upper_corner-ur.result) o) c.corners_in_domain-ok.ensures)
