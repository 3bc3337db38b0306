-- `remove` takes the box out of all its lists at once, and empties its slot: in each list the last entry moves into the gap. Assumes nothing.
use Rattle.std.specs.Prelude.{◌∷◌}
use Rattle.basics.specs.Words.{ℕ, List, [], length}
use Rattle.basics.specs.Meaning.Refusals.{Refusal, unless, first_of, by_tests}
use Rattle.geometry.specs.declared.Aabb.{Aabb}
use Rattle.slots.specs.declared.Handle.{Handle}
use Rattle.slots.specs.Meaning.Slot.{handle_test, emptied_nums, emptied_map}
use Rattle.storage.specs.Meaning.Keyed.{written}
use Rattle.box_cover.specs.Meaning.Coverage.{left_all}
use Rattle.box_tables.specs.Meaning.Tables.{Tables, tables, size_of, counting, entries_in, aabb_on, obj_on, low_cell, high_cell, item_for}
use Rattle.box_tables.specs.Meaning.Decide.{holds}
use Rattle.box_tables.specs.Meaning.Outcome.{Outcome, outcome}
use Rattle.replies.specs.declared.Reply.{Reply}
use Rattle.replies.specs.Meaning.Replies.{reply}

-- box b of slot s taken out of the list of every cell that it covers
abbrev pub left_by : ℕ → ℕ → Aabb → List (List ℕ) → List (List ℕ)
left_by size s b rows = left_all (low_cell size b) (high_cell size b) (item_for size s b) rows

-- the entries without those of slot s
abbrev pub entries_without : Tables → ℕ → List (List ℕ)
entries_without t s = left_by (size_of t) s (aabb_on t s) (entries_in t)

unfoldable pub taken_out : Tables → ℕ → Tables
taken_out t s =
    tables (emptied_nums t.nums s) t.reals
    (counting (emptied_map t.nums t.map s) (length (entries_without t s)))
    (written (entries_without t s) t.pool)

abbrev pub remove_tests : Tables → Handle → List Refusal
remove_tests t h = unless (holds t) 3 ∷ handle_test t.nums h ∷ []

unfoldable pub remove_answer : Tables → Handle → ℕ
remove_answer t h = first_of (remove_tests t h)

unfoldable pub remove_of : Tables → Handle → Outcome Reply
unfolding remove_answer taken_out
remove_of t h =
    by_tests (remove_tests t h) (outcome (reply 0 (obj_on t h.slot)) (taken_out t h.slot)) (λ a. outcome (reply a 0) t)
