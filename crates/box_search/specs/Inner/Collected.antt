-- What collecting the slots of a list behind the first n of `fs`, with the marks m, comes to. Assumes nothing.
use Rattle.std.specs.Prelude.{◌+◌, ◌≤◌, ◌≡◌, ◌++◌}
use Rattle.basics.specs.Words.{ℕ, Bool, List, length, take}
use Rattle.basics.specs.Meaning.Limits.{most_boxes}
use Rattle.box_search.specs.Inner.Marks.{marks_after, first_met, unmarked}
use Rattle.box_search.specs.Inner.Gather.{Slots}

pub record Collected (m : List Bool) (fs : List ℕ) (n : ℕ) (l : List ℕ) (marks : List Bool) (found : List ℕ) (k : ℕ) : Type 0 where
  pub number : k ≡ n + length (first_met m l)
  pub marks-after : marks ≡ marks_after m l
  pub first : take k found ≡ take n fs ++ first_met m l
  pub size : length found ≡ length fs

-- what collecting the slots of a stretch asks for: room behind the first n for each slot that has no mark
abbrev pub Collectable : List (List ℕ) → ℕ → ℕ → ℕ → List Bool → List ℕ → Type 0
Collectable pool from to n marks found =
    (from ≤ to) × (to ≤ length pool) × Slots pool to × (n + unmarked marks ≤ most_boxes) × (length marks ≡ most_boxes) × (length found ≡ most_boxes)
