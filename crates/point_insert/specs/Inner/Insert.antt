-- `insert`: the lowest usable slot takes the object, and (handle, position) goes to the end of its cell's list. Assumes nothing.
-- Here: what only inner contracts cite.
use Rattle.std.specs.Prelude.{Option}
use Rattle.basics.specs.Words.{ℕ, Bool}
use Rattle.basics.specs.Meaning.Refusals.{first_of}
use Rattle.point_insert.specs.Meaning.Insert.{insert_tests_by}

abbrev pub answer_by : Bool → Bool → ℕ → Option ℕ → ℕ
answer_by held inside k u = first_of (insert_tests_by held inside k u)
