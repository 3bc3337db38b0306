-- The objects of a box grid, which are its live slots, and the tests of a call that writes a row for each of them. Assumes nothing.
use Rattle.std.specs.Prelude.{◌∷◌}
use Rattle.basics.specs.Words.{ℕ, Bool, List, [], length, leb}
use Rattle.basics.specs.Meaning.Refusals.{Refusal, unless}
use Rattle.slot_walks.specs.Meaning.Live.{live_from}
use Rattle.box_tables.specs.Meaning.Tables.{Tables}
use Rattle.box_tables.specs.Meaning.Decide.{holds}

-- the live slots, ascending
unfoldable pub live_slots : Tables → List ℕ
live_slots t = live_from 0 t.nums

-- ---- `handles` and `clear`: the tests, by the verdict of the check, for n objects and outputs of so many places
abbrev pub list_tests_by : Bool → ℕ → ℕ → List Refusal
list_tests_by held n room = unless held 3 ∷ unless (leb n room) 9 ∷ []

abbrev pub list_tests : Tables → ℕ → List Refusal
list_tests t room = list_tests_by (holds t) (length (live_slots t)) room
