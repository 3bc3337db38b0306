-- `query`, `query_around` and `query_aabb`: each is the search of its corners and its test. Assumes nothing.
use Rattle.std.specs.Prelude.{◌&&◌, Float}
use Rattle.basics.specs.Words.{List}
use Rattle.basics.specs.Meaning.Refusals.{Refusal}
use Rattle.geometry.specs.declared.Position.{Position}
use Rattle.geometry.specs.Meaning.Domain.{position_in_domain, radius_in_domain}
use Rattle.geometry.specs.Meaning.Circle.{corner_below, corner_above}
use Rattle.geometry.specs.Meaning.Rectangle.{lower_corner, upper_corner}
use Rattle.storage.specs.Meaning.Entries.{Entry}
use Rattle.point_tables.specs.Meaning.Tables.{Tables}
use Rattle.point_search.specs.declared.Test.TheVariants.{Any, Circle, Rectangle}
use Rattle.point_search.specs.Meaning.Searches.{found, Outputs, room, Findings, search_tests, search_of}

-- ---- query: corners not swapped, a reversed range is empty
abbrev pub query_finds : Tables → Position → Position → List Entry
query_finds t ll ur = found t ll ur Any

abbrev pub query_tests : Tables → Position → Position → Outputs → List Refusal
query_tests t ll ur o = search_tests t (position_in_domain ll && position_in_domain ur) ll ur Any (room o)

unfoldable pub query_of : Tables → Position → Position → Outputs → Findings
unfolding search_of
query_of t ll ur = search_of t (position_in_domain ll && position_in_domain ur) ll ur Any

-- ---- query_around
abbrev pub around_finds : Tables → Position → Float → List Entry
around_finds t c r = found t (corner_below c r) (corner_above c r) (Circle c r)

abbrev pub around_tests : Tables → Position → Float → Outputs → List Refusal
around_tests t c r o = search_tests t (position_in_domain c && radius_in_domain r) (corner_below c r) (corner_above c r) (Circle c r) (room o)

unfoldable pub around_of : Tables → Position → Float → Outputs → Findings
unfolding search_of
around_of t c r = search_of t (position_in_domain c && radius_in_domain r) (corner_below c r) (corner_above c r) (Circle c r)

-- ---- query_aabb: corners sorted on each axis, then edges included
abbrev pub aabb_finds : Tables → Position → Position → List Entry
aabb_finds t a b = found t (lower_corner a b) (upper_corner a b) (Rectangle (lower_corner a b) (upper_corner a b))

abbrev pub aabb_tests : Tables → Position → Position → Outputs → List Refusal
aabb_tests t a b o =
    search_tests t (position_in_domain a && position_in_domain b) (lower_corner a b) (upper_corner a b) (Rectangle (lower_corner a b) (upper_corner a b)) (room o)

unfoldable pub aabb_of : Tables → Position → Position → Outputs → Findings
unfolding search_of
aabb_of t a b =
    search_of t (position_in_domain a && position_in_domain b) (lower_corner a b) (upper_corner a b) (Rectangle (lower_corner a b) (upper_corner a b))
