-- Collecting slots with marks: a slot that has no mark is taken and marked. Assumes nothing.
use Rattle.std.specs.Prelude.{◌+◌, ◌∷◌}
use Rattle.basics.specs.Words.{ℕ, Bool, true, false, List, [], get_or, set}
use Rattle.basics.specs.Meaning.Refusals.{pick}

-- the marks after the slots of a list
unfoldable pub marks_after : List Bool → List ℕ → List Bool
marks_after marks [] = marks
marks_after marks (s ∷ l) = marks_after (set marks s true) l

-- the slots of a list that have no mark, each once
unfoldable pub first_met : List Bool → List ℕ → List ℕ
first_met marks [] = []
first_met marks (s ∷ l) = pick (get_or marks s false) (first_met (set marks s true) l) (s ∷ first_met (set marks s true) l)

-- how many have no mark
unfoldable pub unmarked : List Bool → ℕ
unmarked [] = 0
unmarked (m ∷ marks) = pick m 0 1 + unmarked marks
