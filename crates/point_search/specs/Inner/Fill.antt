-- What a search writes of the places that it collected, and what it returns: 9 with the number found if an output is too short.
-- Assumes nothing.
use Rattle.std.specs.Prelude.{◌<◌, ◌≤◌, Float}
use Rattle.basics.specs.Words.{ℕ, List, [], length, get_or, take, leb}
use Rattle.basics.specs.Meaning.Limits.{most_slots}
use Rattle.basics.specs.Meaning.Refusals.{pick}
use Rattle.storage.specs.Inner.Keyed.{Sorted}
use Rattle.storage.specs.Meaning.Entries.{row_key}
use Rattle.storage.specs.Meaning.Packed.{second}
use Rattle.point_records.specs.declared.Entry.{Entry}
use Rattle.point_records.specs.Meaning.Word.{tracker_in}
use Rattle.point_records.specs.Inner.Listed.{listed_at}
use Rattle.point_search.specs.declared.Finding.{Finding}
use Rattle.point_search.specs.Meaning.Searches.{handle_row, place_row, obj_row, Outputs, room, Findings, findings, report_of}
use Rattle.replies.specs.Meaning.Replies.{count}

-- what is reported of an entry: version and data are the first and the third number of its slot's row, the tracker stands in the fourth
abbrev pub finding_of : List (List ℕ) → Entry → Finding
finding_of nums e =
    let row = get_or nums e.slot [] in
    record { handle = record { slot = e.slot; version = get_or row 0 0 }; position = e.position; obj = get_or row 2 0; tracker = tracker_in row }

-- the same of the entry at a place
abbrev pub finding_at : List (List ℕ) → List (List ℕ) → List (List Float) → ℕ → Finding
finding_at nums pool spots j = finding_of nums (listed_at pool spots j)

abbrev pub handle_row_at : List (List ℕ) → List (List ℕ) → List (List Float) → ℕ → List ℕ
handle_row_at nums pool spots j = handle_row (finding_at nums pool spots j)

abbrev pub place_row_at : List (List ℕ) → List (List ℕ) → List (List Float) → ℕ → List Float
place_row_at nums pool spots j = place_row (finding_at nums pool spots j)

abbrev pub obj_row_at : List (List ℕ) → List (List ℕ) → List (List Float) → ℕ → List ℕ
obj_row_at nums pool spots j = obj_row (finding_at nums pool spots j)

unfoldable pub filled : List (List ℕ) → List (List ℕ) → List (List Float) → List ℕ → Outputs → Findings
filled nums pool spots js o =
    pick (leb (length js) (room o)) (report_of (finding_at nums pool spots) js o) (findings (count 9 (length js)) o)

-- what a search asks of the columns: the first `used` rows of the pool are sorted, with a spot beside each
pub record Stocked (pool : List (List ℕ)) (spots : List (List Float)) (used : ℕ) : Type 0 where
  pub most : used ≤ most_slots
  pub in_pool : used ≤ length pool
  pub in_spots : used ≤ length spots
  pub sorted : Sorted row_key (take used pool)

-- there is an entry at place j, and its slot is one of the slots
pub record Findable (nums pool : List (List ℕ)) (spots : List (List Float)) (j : ℕ) : Type 0 where
  pub in_pool : j < length pool
  pub in_spots : j < length spots
  pub in_nums : second pool j < length nums
