-- The lines that search the points: each is a query of the grid, and says its count; the findings are in the outputs. Assumes nothing.
use Rattle.std.specs.Prelude.{◌∷◌, Float}
use Rattle.basics.specs.Words.{[], eqb, ℤ}
use Rattle.basics.specs.Meaning.Refusals.{pick}
use Rattle.geometry.specs.declared.Position.{Position}
use Rattle.point_tables.specs.Meaning.Tables.{Tables}
use Rattle.point_search.specs.declared.Finding.{Finding}
use Rattle.point_search.specs.Meaning.Searches.{Outputs, room, filling, Findings, findings}
use Rattle.point_query.specs.Meaning.Queries.{query_of, around_of, aabb_of}
use Rattle.point_nearest.specs.Meaning.Nearest.{nearest_of}
use Rattle.replies.specs.declared.Nearest.{Nearest}
use Rattle.replies.specs.Meaning.Replies.{count}
use Rattle.trace_printing.specs.declared.Said.{Said}
use Rattle.trace_sixteenths.specs.Meaning.Sixteenth.{sixteenth}
use Rattle.trace_lines.specs.declared.Spot.{Spot}
use Rattle.trace_lines.specs.declared.PointSearch.{PointSearch}
use Rattle.trace_lines.specs.declared.PointSearch.TheVariants.{Cir, Rec, Cel, Near}
use Rattle.trace_telling.specs.Meaning.Places.{place_of}
use Rattle.trace_telling.specs.Meaning.Tells.{points_or}

-- what is said, and the outputs after it
pub record Searched : Type 0 where
  pub tells : Said
  pub outputs : Outputs

abbrev pub searched : Said → Outputs → Searched
searched s o = record { tells = s; outputs = o }

abbrev pub point_search_said : Findings → Searched
point_search_said f = searched (points_or f.returned.answer f.returned.count) f.outputs

-- ---- `nearest` as a search that finds at most one
abbrev pub finding_in : Nearest → Finding
finding_in r = record { handle = r.handle; position = r.position; obj = r.obj; tracker = r.tracker }

-- its answer and its count, and the finding at place 0 of the outputs; as for every search, an output that is too short is 9 and the count
unfoldable pub nearest_finds : Nearest → Outputs → Findings
nearest_finds r o =
    let c = count r.answer r.count in
    pick (eqb r.count 0) (findings c o)
    (pick (eqb (room o) 0) (findings (count 9 r.count) o) (findings c (filling (λ f. f) (finding_in r ∷ []) o)))

-- `cir`: centre and radius. `rec`: two corners, in any order. `cel`: all of the cells from the lower left to the upper right. `near`: centre and radius
unfoldable pub findings_of : Tables → PointSearch → Position → Position → Float → Outputs → Findings
findings_of t Cir p q far o = around_of t p far o
findings_of t Rec p q far o = aabb_of t p q o
findings_of t Cel p q far o = query_of t p q o
findings_of t Near p q far o = nearest_finds (nearest_of t p far) o

-- the line, with the places and the radius that its record says
abbrev pub point_search_of : Tables → PointSearch → Spot → Spot → ℤ → Outputs → Searched
point_search_of t s p q far o = point_search_said (findings_of t s (place_of p) (place_of q) (sixteenth far) o)
