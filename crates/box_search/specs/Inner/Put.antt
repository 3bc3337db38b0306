-- What is asked of the slots that were found: each has a row. What is kept and reported of them. Assumes nothing.
use Rattle.std.specs.Prelude.{◌<◌, ◌≤◌, ◌≡◌, Float}
use Rattle.basics.specs.Words.{ℕ, List, map, length, get_or}
use Rattle.basics.specs.Meaning.Limits.{most_boxes}
use Rattle.geometry.specs.declared.Aabb.{Aabb}
use Rattle.geometry.specs.Meaning.Intersects.{intersects}
use Rattle.slot_walks.specs.Meaning.Live.{obj_at, handle_at}
use Rattle.storage.specs.Meaning.Keyed.{filter, written}
use Rattle.box_tables.specs.Meaning.Tables.{aabb_at}
use Rattle.box_search.specs.Meaning.Search.{box_row}

-- the first n of an array of 256 are slots of a table of so many rows
pub record Found (rows : ℕ) (found : List ℕ) (n : ℕ) : Type 0 where
  pub size : length found ≡ most_boxes
  pub most : n ≤ most_boxes
  pub each : (k : ℕ) → k < n → get_or found k 0 < rows

-- of the slots those whose box q intersects
abbrev pub intersecting : Aabb → List (List Float) → List ℕ → List ℕ
intersecting q reals slots = filter (λ s. intersects q (aabb_at reals s)) slots

-- what reporting the first n slots found asks for: a row and a box of each, and room in the outputs
abbrev pub Reportable : List (List ℕ) → List (List Float) → List ℕ → ℕ → List (List ℕ) → List (List Float) → List ℕ → Type 0
Reportable nums reals found n handles boxes objs =
    Found (length nums) found n × (length reals ≡ length nums) × (n ≤ length handles) × (n ≤ length boxes) × (n ≤ length objs)

-- the handle, the box and the data of each slot in the outputs, from place 0 on
abbrev pub Reported : List (List ℕ) → List (List Float) → List ℕ → List (List ℕ) → List (List Float) → List ℕ → List (List ℕ) → List (List Float) → List ℕ → Type 0
Reported nums reals slots handles boxes objs handles' boxes' objs' =
    (handles' ≡ written (map (handle_at nums) slots) handles) × (boxes' ≡ written (map (box_row reals) slots) boxes) × (objs' ≡ written (map (obj_at nums) slots) objs)
