-- The corners of the three queries: where the numbers that were given are in the domain, the cell rule may be asked of the corners; and
-- each query is the search of its corners and its test. Assumes nothing.
use Rattle.basics.specs.Words.{◌≡◌, sym, ◌∙◌, subst, Bool, true, ◌&&◌, T}
use lib.Ieee.{Float}
use Rattle.basics.proofs.laws.Says.{both_true, says_t}
use Rattle.geometry.specs.declared.Position.{Position}
use Rattle.geometry.specs.Meaning.Domain.{position_in_domain, radius_in_domain}
use Rattle.geometry.specs.Meaning.Rectangle.{lower_corner, upper_corner}
use Rattle.geometry.proofs.laws.RectangleLaws.{lower_in_domain, upper_in_domain}
use Rattle.geometry.specs.Meaning.Circle.{corner_below, corner_above}
use Rattle.cells.specs.Inner.CellRule.{Reached}
use Rattle.cells.proofs.laws.ReachLaws.{position_reached, low_reached, high_reached}
use Rattle.point_tables.specs.Meaning.Tables.{Tables}
use Rattle.point_search.specs.declared.Test.TheVariants.{Any, Circle, Rectangle}
use Rattle.point_search.specs.Meaning.Searches.{Outputs, Findings, search_of}
use Rattle.point_query.specs.Meaning.Queries.{query_of, around_of, aabb_of}

-- both of two tests that were run
both : (p q u v : Bool) → p ≡ u → q ≡ v → (p && q) ≡ true → T u × T v
both p q u v e f h = let (a, b) = both_true p q h in ((says_t u).yes (sym e ∙ a), (says_t v).yes (sym f ∙ b))

module _ (p q : Bool) where
  pub query_reached : (ll ur : Position) → p ≡ position_in_domain ll → q ≡ position_in_domain ur → (p && q) ≡ true → Reached ll × Reached ur
  query_reached ll ur e f h = let (a, b) = both p q (position_in_domain ll) (position_in_domain ur) e f h in (position_reached ll a, position_reached ur b)

  pub around_reached : (c : Position) (r : Float) (ll ur : Position) → ll ≡ corner_below c r → ur ≡ corner_above c r → p ≡ position_in_domain c → q ≡ radius_in_domain r
      → (p && q) ≡ true → Reached ll × Reached ur
  around_reached c r ll ur el eu e f h =
      let (a, b) = both p q (position_in_domain c) (radius_in_domain r) e f h in
      (subst Reached (sym el) (low_reached c r a b), subst Reached (sym eu) (high_reached c r a b))

  pub aabb_reached : (a b ll ur : Position) → ll ≡ lower_corner a b → ur ≡ upper_corner a b → p ≡ position_in_domain a → q ≡ position_in_domain b
      → (p && q) ≡ true → Reached ll × Reached ur
  aabb_reached a b ll ur el eu e f h =
      let (x, y) = both p q (position_in_domain a) (position_in_domain b) e f h in (
        subst Reached (sym el) (position_reached (lower_corner a b) (lower_in_domain a b x y)),
        subst Reached (sym eu) (position_reached (upper_corner a b) (upper_in_domain a b x y)),
      )

  -- r is what the search came to
  module _ (t : Tables) (o : Outputs) (r : Findings) where
    pub query_is : (ll ur : Position) → p ≡ position_in_domain ll → q ≡ position_in_domain ur → r ≡ search_of t (p && q) ll ur Any o → r ≡ query_of t ll ur o
    unfolding query_of
    query_is ll ur e f h = h ∙ (λ z. search_of t (e z && f z) ll ur Any o)

    pub around_is : (c : Position) (d : Float) (ll ur : Position) → ll ≡ corner_below c d → ur ≡ corner_above c d → p ≡ position_in_domain c → q ≡ radius_in_domain d
        → r ≡ search_of t (p && q) ll ur (Circle c d) o → r ≡ around_of t c d o
    unfolding around_of
    around_is c d ll ur el eu e f h = h ∙ (λ z. search_of t (e z && f z) (el z) (eu z) (Circle c d) o)

    pub aabb_is : (a b ll ur : Position) → ll ≡ lower_corner a b → ur ≡ upper_corner a b → p ≡ position_in_domain a → q ≡ position_in_domain b
        → r ≡ search_of t (p && q) ll ur (Rectangle ll ur) o → r ≡ aabb_of t a b o
    unfolding aabb_of
    aabb_is a b ll ur el eu e f h = h ∙ (λ z. search_of t (e z && f z) (el z) (eu z) (Rectangle (el z) (eu z)) o)
