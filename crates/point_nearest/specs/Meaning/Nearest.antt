-- `nearest`: the one point that is closest to a centre among those that the circle query would report. Assumes nothing.
use Rattle.std.specs.Prelude.{◌&&◌, ◌||◌, ◌∷◌, Float}
use Rattle.basics.specs.Words.{ℕ, Bool, List, [], ltb}
use Rattle.std.specs.Float.Ieee.{lt, eq}
use Rattle.basics.specs.Meaning.Refusals.{Refusal, pick, by_tests}
use Rattle.geometry.specs.declared.Position.{Position}
use Rattle.geometry.specs.Meaning.Domain.{position_in_domain, radius_in_domain}
use Rattle.geometry.specs.Meaning.Circle.{distance_squared, corner_below, corner_above}
use Rattle.geometry.specs.Meaning.Zero.{zero-position}
use Rattle.storage.specs.Meaning.Entries.{Entry}
use Rattle.point_tables.specs.Meaning.Tables.{Tables, slot_of}
use Rattle.point_search.specs.declared.Finding.{Finding}
use Rattle.point_search.specs.Meaning.Searches.{position_of, finding_on, range_tests}
use Rattle.point_query.specs.Meaning.Queries.{around_finds}
use Rattle.replies.specs.declared.Nearest.{Nearest}

-- e is closer than d by the squared distance; on equal distance it has the lower slot
abbrev pub closer_than : Position → Entry → Entry → Bool
closer_than c d e =
    let x = distance_squared (position_of e) c in
    let y = distance_squared (position_of d) c in
    lt x y || (eq x y && ltb (slot_of e) (slot_of d))

-- the closer of the one so far, if there is one, and the next
abbrev pub closer_of : Position → List Entry → Entry → List Entry
closer_of c [] e = e ∷ []
closer_of c (d ∷ ds) e = pick (closer_than c d e) (e ∷ []) (d ∷ [])

-- the closest of a list and the one so far: none only where there is none at all
unfoldable pub closest_from : Position → List Entry → List Entry → List Entry
closest_from c so_far [] = so_far
closest_from c so_far (e ∷ es) = closest_from c (closer_of c so_far e) es

-- ---- what is returned: a finding with count 1; else zeros
abbrev pub nearest_reply : ℕ → ℕ → Finding → Nearest
nearest_reply answer count f = record { answer = answer; count = count; handle = f.handle; position = f.position; obj = f.obj; tracker = f.tracker }

abbrev pub no_finding : Finding
no_finding = record { handle = record { slot = 0; version = 0 }; position = zero-position; obj = 0; tracker = 0 }

abbrev pub nearest_report : Tables → List Entry → Nearest
nearest_report t [] = nearest_reply 0 0 no_finding
nearest_report t (e ∷ es) = nearest_reply 0 1 (finding_on t e)

-- ---- refused as the circle is, but for 9: there is no output
abbrev pub nearest_tests : Tables → Position → Float → List Refusal
nearest_tests t c r = range_tests t (position_in_domain c && radius_in_domain r) (corner_below c r) (corner_above c r)

unfoldable pub nearest_of : Tables → Position → Float → Nearest
unfolding closest_from
nearest_of t c r = by_tests (nearest_tests t c r) (nearest_report t (closest_from c [] (around_finds t c r))) (λ a. nearest_reply a 0 no_finding)
