-- The line that searches the boxes: a query of the grid, which says its count; the findings are in the outputs. Assumes nothing.
use Rattle.basics.specs.Words.{ℕ, List, replicate}
use Rattle.std.specs.Prelude.{Float}
use Rattle.box_tables.specs.Meaning.Tables.{Tables}
use Rattle.box_query.specs.Meaning.Queries.{Findings, query_of}
use Rattle.trace_printing.specs.declared.Said.{Said}
use Rattle.trace_lines.specs.declared.Spot.{Spot}
use Rattle.trace_telling.specs.Meaning.Places.{box_of}
use Rattle.trace_telling.specs.Meaning.Tells.{boxes_or}

-- what is said, and the outputs after it
pub record Searched : Type 0 where
  pub tells : Said
  pub handles : List (List ℕ)
  pub corners : List (List Float)

abbrev pub searched : Said → List (List ℕ) → List (List Float) → Searched
searched s h c = record { tells = s; handles = h; corners = c }

abbrev pub box_search_said : Findings → Searched
box_search_said f = searched (boxes_or f.returned.answer f.returned.count) f.handles f.boxes

-- `bqry`: the boxes that the query box meets; their data, which the trace does not tell, goes to 64 places that are left again
abbrev pub box_search_of : Tables → Spot → Spot → List (List ℕ) → List (List Float) → Searched
box_search_of t ll ur handles corners = box_search_said (query_of t (box_of ll ur) handles corners (replicate 64 0))
