-- Building: every slot is free at version 1, no list has an entry. It looks at lengths only for 3. Assumes nothing.
use Rattle.basics.specs.Words.{ℕ, List}
use Rattle.basics.specs.Meaning.Refusals.{Refusal, first_of, by_tests}
use Rattle.blank.specs.Meaning.Blank.{blank_nums, blank_map, build_tests}
use Rattle.point_tables.specs.Meaning.Tables.{Tables, tables, slots_of}
use Rattle.point_tables.specs.Meaning.Decide.{sized}
use Rattle.point_tables.specs.Meaning.Outcome.{Outcome, outcome}

unfoldable pub built : Tables → ℕ → Tables
built t size = tables (blank_nums (slots_of t)) t.reals t.ints (blank_map (slots_of t) size) t.pool t.spots t.cells

abbrev pub new_tests : Tables → ℕ → List Refusal
new_tests t size = build_tests (sized t) size

unfoldable pub new_answer : Tables → ℕ → ℕ
new_answer t size = first_of (new_tests t size)

unfoldable pub new_of : Tables → ℕ → Outcome ℕ
unfolding new_answer built
new_of t size = by_tests (new_tests t size) (outcome 0 (built t size)) (λ a. outcome a t)
