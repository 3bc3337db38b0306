-- `clear` of a box grid writes box and data, ascending by slot, then empties the grid: versions rise as with any emptying. Assumes nothing.
-- Here: what only inner contracts cite.
use Rattle.std.specs.Prelude.{◌≤◌, ◌≡◌, Float}
use Rattle.basics.specs.Words.{ℕ, List, length}
use Rattle.basics.specs.Meaning.Limits.{most_boxes}
use Rattle.slot_walks.specs.Meaning.Live.{live_from}

-- what writing them is asked for: both outputs have a place for each object
abbrev pub Room : List (List ℕ) → List (List Float) → List (List Float) → List ℕ → Type 0
Room nums reals boxes objs =
    (length reals ≡ length nums) × (length nums ≤ most_boxes) × (length (live_from 0 nums) ≤ length boxes) × (length (live_from 0 nums) ≤ length objs)
