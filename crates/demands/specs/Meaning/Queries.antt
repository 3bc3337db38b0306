-- The three queries of the point grid as one, and what `get` says of a place of their outputs. Assumes nothing.
use Rattle.basics.specs.Words.{ℕ, [], get_or}
use Rattle.std.specs.Prelude.{Float}
use Rattle.geometry.specs.declared.Position.{Position}
use Rattle.point_records.specs.Meaning.Columns.{position_in}
use Rattle.point_tables.specs.Meaning.Tables.{Tables}
use Rattle.point_batch.specs.Meaning.Batch.{handle_of}
use Rattle.point_get.specs.declared.Got.{Got}
use Rattle.point_get.specs.Meaning.{got, get_of}
use Rattle.point_search.specs.Meaning.Searches.{Outputs, Findings}
use Rattle.point_query.specs.Meaning.Queries.{query_of, around_of, aabb_of}

pub data Query : Type 0 where
  of_cells : Position → Position → Query
  of_circle : Position → Float → Query
  of_rectangle : Position → Position → Query

unfoldable pub queried : Tables → Query → Outputs → Findings
queried t (of_cells ll ur) o = query_of t ll ur o
queried t (of_circle c r) o = around_of t c r o
queried t (of_rectangle a b) o = aabb_of t a b o

-- what `get` gives of the handle in place j
abbrev pub got_at : Tables → Findings → ℕ → Got
got_at t f j = get_of t (handle_of (get_or f.outputs.handles j []))

-- answer 0, with the position, the data and the tracker that stand beside it
abbrev pub place_at : Findings → ℕ → Got
place_at f j = got 0 (position_in (get_or f.outputs.places j [])) (get_or (get_or f.outputs.objs j []) 0 0) (get_or (get_or f.outputs.objs j []) 1 0)
