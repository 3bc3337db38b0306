-- `nearest` as a scan of all entries: what the rings come to without them. Assumes nothing.
use Rattle.basics.specs.Words.{[]}
use Rattle.std.specs.Prelude.{Float}
use Rattle.basics.specs.Meaning.Refusals.{by_tests}
use Rattle.geometry.specs.declared.Position.{Position}
use Rattle.geometry.specs.Meaning.Circle.{in_circle}
use Rattle.storage.specs.Meaning.Keyed.{filter}
use Rattle.point_tables.specs.Meaning.Tables.{Tables, entries_in}
use Rattle.point_search.specs.Meaning.Searches.{position_of}
use Rattle.replies.specs.declared.Nearest.{Nearest}
use Rattle.point_nearest.specs.Meaning.Nearest.{closest_from, nearest_reply, no_finding, nearest_report, nearest_tests}

unfoldable pub scan_of : Tables → Position → Float → Nearest
scan_of t c r =
    by_tests (nearest_tests t c r)
    (nearest_report t (closest_from c [] (filter (λ e. in_circle (position_of e) c r) (entries_in t))))
    (λ a. nearest_reply a 0 no_finding)
