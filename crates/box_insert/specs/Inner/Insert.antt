-- `insert`: the lowest usable slot takes the box, which goes to the end of the list of every cell that it covers. Assumes nothing.
-- Here: what only inner contracts cite.
use Rattle.std.specs.Prelude.{◌+◌, ◌≡◌, Option, Some, Result, IfOk}
use Rattle.basics.specs.Words.{ℕ, Bool, true, List, length, get_or, leb}
use Rattle.basics.specs.declared.Refusal.{Refusal}
use Rattle.basics.specs.Meaning.Answers.{answer_of}
use Rattle.basics.specs.Meaning.Refusals.{first_of}
use Rattle.geometry.specs.declared.Aabb.{Aabb}
use Rattle.geometry.specs.Meaning.Domain.{aabb_in_domain}
use Rattle.slots.specs.Meaning.Map.{lowest_usable}
use Rattle.box_tables.specs.declared.Span.{Span}
use Rattle.box_tables.specs.Meaning.Tables.{covers}
use Rattle.box_tables.specs.Inner.Way.{span_of}
use Rattle.box_insert.specs.Meaning.Insert.{few_cells, insert_tests_by}

abbrev pub answer_by : Bool → Bool → Bool → Option ℕ → Bool → ℕ
answer_by held inside few u room = first_of (insert_tests_by held inside few u room)

-- what is chosen, by the map of a grid: the lowest usable slot and the range of cells of b, or the first refusal that applies
abbrev pub Chosen : List (List ℕ) → List ℕ → ℕ → Aabb → Result (ℕ × Span) Refusal → Type 0
Chosen nums map room b r =
    (answer_of r ≡ answer_by true (aabb_in_domain b) (few_cells (get_or map 0 0) b) (lowest_usable map (length nums)) (leb (get_or map 1 0 + covers (get_or map 0 0) b) room))
    × IfOk r (λ c. (lowest_usable map (length nums) ≡ Some c.0) × (c.1 ≡ span_of (get_or map 0 0) b))
