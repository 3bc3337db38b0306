-- The points of a block: those that some circle finds, and those that are recorded there. Recorded positions alone count, and an object that is marked
-- removed counts until maintain. Assumes nothing.
use Rattle.std.specs.Prelude.{◌∷◌, ◌++◌, Float}
use Rattle.basics.specs.Words.{ℕ, Bool, List, [], get_or}
use Rattle.std.specs.Float.{nan}
use Rattle.geometry.specs.declared.Position.{Position}
use Rattle.slot_walks.specs.Meaning.Live.{live_from}
use Rattle.storage.specs.Meaning.Keyed.{filter}
use Rattle.storage.specs.Meaning.Entries.{Entry}
use Rattle.point_records.specs.Meaning.Columns.{position_in}
use Rattle.point_tables.specs.Meaning.Tables.{Tables, record_on}
use Rattle.point_search.specs.Meaning.Searches.{position_of}
use Rattle.point_query.specs.Meaning.Queries.{around_finds}
use Rattle.encoder_blocks.specs.Meaning.Blocks.{in_block}
use Rattle.encoder_blocks.specs.Meaning.Some.{some}

-- the most circles
abbrev pub most_circles : ℕ
most_circles = 16

-- ---- a circle as it is lent: x, y and the radius
abbrev pub centre_of : List Float → Position
centre_of c = position_in c

abbrev pub radius_of : List Float → Float
radius_of c = get_or c 2 nan

-- what `query_around` finds, circle after circle
abbrev pub found_by : Tables → List (List Float) → List Entry
found_by t [] = []
found_by t (c ∷ cs) = around_finds t (centre_of c) (radius_of c) ++ found_by t cs

-- ---- a point that some circle finds lies in block (i, j)
unfoldable pub circled : Tables → List (List Float) → ℕ → ℕ → Bool
circled t cs i j = some (filter (λ e. in_block i j (position_of e)) (found_by t cs))

-- ---- some recorded point lies in it
unfoldable pub recorded : Tables → ℕ → ℕ → Bool
recorded t i j = some (filter (λ s. in_block i j (record_on t s).position) (live_from 0 t.nums))
