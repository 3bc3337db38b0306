-- A query finds what a scan of all entries would find, in the same order: no found point lies outside the searched range. Assumes nothing.
use Rattle.basics.specs.Words.{◌≡◌, refl, ◌∙◌, Bool, true, false, ◌&&◌, T}
use lib.Ieee.{Float}
use Rattle.geometry.specs.declared.Position.{Position}
use Rattle.geometry.specs.Meaning.Domain.{position_in_domain, radius_in_domain}
use Rattle.geometry.specs.Meaning.Circle.{in_circle, corner_below, corner_above}
use Rattle.geometry.specs.Meaning.Rectangle.{lower_corner, upper_corner, in_rectangle}
use Rattle.geometry.proofs.laws.RectangleLaws.{lower_in_domain, upper_in_domain}
use Rattle.cells.specs.Meaning.CellRule.{cell_at}
use Rattle.cells.specs.Inner.CellRule.{Reached}
use Rattle.cells.proofs.laws.ReachLaws.{position_reached, low_reached, high_reached}
use Rattle.cells.proofs.laws.Range.{in_range}
use Rattle.cells.proofs.laws.Cover.{rectangle_cover, circle_cover}
use Rattle.storage.specs.Meaning.Keyed.{All, filter}
use Rattle.storage.specs.Meaning.Entries.{Entry, entry_key}
use Rattle.storage.proofs.laws.FilterLaws.{all_map, all_both, filter_same}
use Rattle.storage.specs.Inner.Window.{window_of}
use Rattle.point_tables.specs.Meaning.Tables.{Tables, size_of, entries_in}
use Rattle.point_tables.specs.Meaning.Holds.{Holds}
use Rattle.point_search.specs.declared.Test.{Test}
use Rattle.point_search.specs.declared.Test.TheVariants.{Any, Circle, Rectangle}
use Rattle.point_search.specs.Meaning.Searches.{passes, position_of, found}
use Rattle.point_search.proofs.laws.FoundLaws.{Standing, standing, window_own, found-wanted}

-- an entry whose position has its cell in the range of the corners ll and ur
abbrev pub in_range_of : Tables → Position → Position → Entry → Bool
in_range_of t ll ur e = in_range (cell_at (size_of t) ll) (cell_at (size_of t) ur) (cell_at (size_of t) (position_of e))

-- of two tests, the one that holds wherever the other does adds nothing to it
implied : (w p : Bool) → (p ≡ true → w ≡ true) → (w && p) ≡ p
implied true p f = refl
implied false true f = f refl
implied false false f = refl

always : (w : Bool) → (w && true) ≡ w
always true = refl
always false = refl

module _ (t : Tables) (h : Holds t) where
  module _ (ll ur : Position) (rl : Reached ll) (ru : Reached ur) where
    abbrev window : Entry → Bool
    window e = window_of (cell_at (size_of t) ll) (cell_at (size_of t) ur) (entry_key e)

    -- every entry in use answers the search as it answers another test
    found_as : (test : Test) (other : Entry → Bool) → All (λ e. (window e && passes test (position_of e)) ≡ other e) (entries_in t)
        → found t ll ur test ≡ filter other (entries_in t)
    found_as test other f = found-wanted t h ll ur rl ru test ∙ filter_same (λ e. window e && passes test (position_of e)) other (entries_in t) f

    -- `query`: the entries whose positions have their cells in the range
    pub range_scan : found t ll ur Any ≡ filter (in_range_of t ll ur) (entries_in t)
    range_scan =
        found_as Any (in_range_of t ll ur)
        (all_map (Standing t) (λ e. (window e && true) ≡ in_range_of t ll ur e) (λ e s. always (window e) ∙ window_own t h ll ur rl ru e s) (entries_in t) (standing t h))

    -- a test that passes only in the range
    scanned : (test : Test) → All (λ e. passes test (position_of e) ≡ true → in_range_of t ll ur e ≡ true) (entries_in t)
        → found t ll ur test ≡ filter (λ e. passes test (position_of e)) (entries_in t)
    scanned test near =
        found_as test (λ e. passes test (position_of e))
        (all_both (Standing t) (λ e. passes test (position_of e) ≡ true → in_range_of t ll ur e ≡ true) (λ e. (window e && passes test (position_of e)) ≡ passes test (position_of e))
        (λ e s n. implied (window e) (passes test (position_of e)) (λ p. window_own t h ll ur rl ru e s ∙ n p)) (entries_in t) (standing t h) near)

  -- `query_around`
  pub circle_scan : (c : Position) (r : Float) → T (position_in_domain c) → T (radius_in_domain r)
      → found t (corner_below c r) (corner_above c r) (Circle c r) ≡ filter (λ e. in_circle (position_of e) c r) (entries_in t)
  circle_scan c r dc dr =
      let low = corner_below c r in
      let high = corner_above c r in
      scanned low high (low_reached c r dc dr) (high_reached c r dc dr) (Circle c r)
      (all_map (Standing t) (λ e. in_circle (position_of e) c r ≡ true → in_range_of t low high e ≡ true)
      (λ e s i. circle_cover (size_of t) h.counted.size.0 (position_of e) c r s.within_domain dc dr i) (entries_in t) (standing t h))

  -- `query_aabb`
  pub rectangle_scan : (a b : Position) → T (position_in_domain a) → T (position_in_domain b)
      → found t (lower_corner a b) (upper_corner a b) (Rectangle (lower_corner a b) (upper_corner a b)) ≡ filter (λ e. in_rectangle (position_of e) (lower_corner a b) (upper_corner a b)) (entries_in t)
  rectangle_scan a b da db =
      let low = lower_corner a b in
      let high = upper_corner a b in
      scanned low high (position_reached low (lower_in_domain a b da db)) (position_reached high (upper_in_domain a b da db)) (Rectangle low high)
      (all_map (Standing t) (λ e. in_rectangle (position_of e) low high ≡ true → in_range_of t low high e ≡ true)
      (λ e s i. rectangle_cover (size_of t) h.counted.size.0 (position_of e) a b i) (entries_in t) (standing t h))
