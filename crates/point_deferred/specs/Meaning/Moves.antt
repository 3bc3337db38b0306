-- `set_position` and the deferred `remove`: their answers, and the tables after them. Assumes nothing.
use Rattle.std.specs.Prelude.{◌∷◌, ◌++◌}
use Rattle.basics.specs.Words.{ℕ, not, List, []}
use Rattle.basics.specs.Meaning.Refusals.{Refusal, unless, first_of, by_tests}
use Rattle.geometry.specs.Meaning.Domain.{position_in_domain}
use Rattle.geometry.specs.declared.Position.{Position}
use Rattle.cells.specs.Meaning.Key.{key_of}
use Rattle.slots.specs.declared.Handle.{Handle}
use Rattle.storage.specs.Meaning.Keyed.{written}
use Rattle.storage.specs.Meaning.CellTable.{marked}
use Rattle.point_records.specs.declared.State.{State}
use Rattle.point_records.specs.declared.State.TheVariants.{Removed}
use Rattle.point_records.specs.Meaning.States.{is_removed, aimed, with_state}
use Rattle.point_records.specs.Meaning.Trackers.{own_tests}
use Rattle.point_tables.specs.Meaning.Tables.{Tables, size_of, record_on, cell_rows}
use Rattle.point_tables.specs.Meaning.Decide.{holds}
use Rattle.point_tables.specs.Meaning.Outcome.{Outcome, outcome, stored}
use Rattle.replies.specs.declared.Reply.{Reply}
use Rattle.replies.specs.Meaning.Replies.{reply}

-- the tables with another state for slot s, and the cell of its object marked dirty
unfoldable pub pended : Tables → ℕ → State → Tables
pended t s state = stored t s (with_state (record_on t s) state) (written (marked (key_of (record_on t s).cell) (cell_rows t)) t.cells)

-- ---- set_position by tracker k: its tests past the check, for an object of that state, and all of them
abbrev pub set_held_tests : List (List ℕ) → State → Handle → Position → ℕ → List Refusal
set_held_tests nums state h at k =
    unless (position_in_domain at) 6 ∷ (own_tests nums h k ++ (unless (not (is_removed state)) 1 ∷ []))

abbrev pub set_position_tests : Tables → Handle → Position → ℕ → List Refusal
set_position_tests t h at k = unless (holds t) 3 ∷ set_held_tests t.nums (record_on t h.slot).state h at k

unfoldable pub set_position_answer : Tables → Handle → Position → ℕ → ℕ
set_position_answer t h at k = first_of (set_position_tests t h at k)

unfoldable pub set_position_of : Tables → Handle → Position → ℕ → Outcome Reply
unfolding set_position_answer pended
set_position_of t h at k =
    by_tests (set_position_tests t h at k)
    (outcome (reply 0 0) (pended t h.slot (aimed (size_of t) (record_on t h.slot).cell at)))
    (λ a. outcome (reply a 0) t)

-- ---- remove by tracker k: marks and returns the data; a second one before maintain returns it again
abbrev pub remove_held_tests : List (List ℕ) → Handle → ℕ → List Refusal
remove_held_tests nums h k = own_tests nums h k

abbrev pub remove_tests : Tables → Handle → ℕ → List Refusal
remove_tests t h k = unless (holds t) 3 ∷ remove_held_tests t.nums h k

unfoldable pub remove_answer : Tables → Handle → ℕ → ℕ
remove_answer t h k = first_of (remove_tests t h k)

unfoldable pub remove_of : Tables → Handle → ℕ → Outcome Reply
unfolding remove_answer pended
remove_of t h k =
    by_tests (remove_tests t h k)
    (outcome (reply 0 (record_on t h.slot).obj) (pended t h.slot Removed))
    (λ a. outcome (reply a 0) t)
