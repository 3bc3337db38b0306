-- Assumes nothing.
use Rattle.basics.specs.Words.{sym, ap, ◌∙◌, Bool, refl}
use Rattle.geometry.specs.Meaning.Domain.{position_in_domain}
use Rattle.point_tables.specs.Meaning.Tables.{tables}
use Rattle.point_search.specs.declared.Test.TheVariants.{Any}
use Rattle.point_search.specs.Meaning.Searches.{outputs, search_of}
use Rattle.point_query.proofs.laws.CornerLaws.{query_reached, query_is}
use Rattle.point_query.proofs.query.Goals as goal

pub search-requires : goal.search-requires
search-requires c = let a = c.args in λ e. query_reached _ _ a.ll a.ur refl refl (sym c.corners_in_domain-ok.ensures ∙ e)

pub returns : goal.returns
returns c =
    let a = c.args in
    let t = tables a.nums.now a.reals.now a.ints.now a.map.now a.pool.now a.spots.now a.cells.now in
    let o = outputs a.found.now a.places.now a.objs.now in
    query_is (position_in_domain a.ll) (position_in_domain a.ur) t o _ a.ll a.ur refl refl
    (c.search.ensures ∙ ap (λ (b : Bool). search_of t b a.ll a.ur Any o) c.corners_in_domain-ok.ensures)
