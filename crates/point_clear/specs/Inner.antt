-- What the steps of the code are asked for and give. Assumes nothing.
use Rattle.std.specs.Prelude.{◌≤◌, ◌≡◌, ◌∷◌, Float}
use Rattle.basics.specs.Words.{ℕ, List, [], map, length, get_or}
use Rattle.std.specs.Float.{nan}
use Rattle.basics.specs.Meaning.Limits.{most_slots}
use Rattle.point_records.specs.Meaning.Word.{tracker_at}
use Rattle.slot_walks.specs.Meaning.Live.{live_from, obj_at}

-- what the live slots have in the columns
abbrev pub place_at : List (List Float) → ℕ → List Float
place_at reals s = get_or (get_or reals s []) 0 nan ∷ get_or (get_or reals s []) 1 nan ∷ []

abbrev pub places_of : List (List Float) → List ℕ → List (List Float)
places_of reals slots = map (place_at reals) slots

abbrev pub obj_row_at : List (List ℕ) → ℕ → List ℕ
obj_row_at nums s = obj_at nums s ∷ tracker_at nums s ∷ []

abbrev pub objs_of : List (List ℕ) → List ℕ → List (List ℕ)
objs_of nums slots = map (obj_row_at nums) slots

-- what writing them is asked for: both outputs have a place for each object
abbrev pub Room : List (List ℕ) → List (List Float) → List (List Float) → List (List ℕ) → Type 0
Room nums reals places objs =
    (length reals ≡ length nums) × (length nums ≤ most_slots) × (length (live_from 0 nums) ≤ length places) × (length (live_from 0 nums) ≤ length objs)
