-- `insert`: the lowest usable slot takes the object, and (handle, position) goes to the end of its cell's list. Assumes nothing.
use Rattle.std.specs.Prelude.{◌∷◌, Option}
use Rattle.basics.specs.Words.{ℕ, Bool, List, [], map, length, set}
use Rattle.basics.specs.Meaning.Refusals.{Refusal, unless, first_of, by_tests}
use Rattle.geometry.specs.Meaning.Domain.{position_in_domain}
use Rattle.geometry.specs.declared.Position.{Position}
use Rattle.cells.specs.Meaning.CellRule.{cell_at}
use Rattle.cells.specs.Meaning.Key.{key_of}
use Rattle.slots.specs.Meaning.Map.{taken, lowest_usable, is_some, slot_in}
use Rattle.slots.specs.Meaning.Slot.{live, version_at}
use Rattle.storage.specs.Meaning.Keyed.{append1, written}
use Rattle.storage.specs.Meaning.Entries.{Entry, entry, row_of, spot_of, entry_key}
use Rattle.storage.specs.Meaning.CellTable.{entered}
use Rattle.point_records.specs.declared.State.TheVariants.{Unchanged}
use Rattle.point_records.specs.declared.Record.{Record}
use Rattle.point_records.specs.Meaning.Columns.{nums_of, reals_of, ints_of}
use Rattle.point_records.specs.Meaning.Trackers.{tracker_of, tracker_test}
use Rattle.point_tables.specs.Meaning.Tables.{Tables, tables, size_of, counting, slots_of, entries_in, cell_rows}
use Rattle.point_tables.specs.Meaning.Decide.{holds}
use Rattle.point_tables.specs.Meaning.Outcome.{Outcome, outcome}
use Rattle.replies.specs.declared.Inserted.{Inserted}
use Rattle.replies.specs.Meaning.Replies.{inserted}

abbrev pub usable_slot : Tables → Option ℕ
usable_slot t = lowest_usable t.map (slots_of t)

abbrev pub new_record : Tables → ℕ → Position → ℕ → ℕ → Record
new_record t s p d k =
    record { version = version_at t.nums s; phase = live; obj = d; position = p; cell = cell_at (size_of t) p; state = Unchanged; tracker = tracker_of k }

abbrev pub new_entry : Tables → ℕ → Position → Entry
new_entry t s p = entry (key_of (cell_at (size_of t) p) ∷ s ∷ []) (p.x ∷ p.y ∷ [])

-- the entries and the rows of the cells after it
abbrev pub entries_with : Tables → ℕ → Position → List Entry
entries_with t s p = append1 entry_key (entries_in t) (new_entry t s p)

abbrev pub rows_with : Tables → Position → List (List ℕ)
rows_with t p = entered (key_of (cell_at (size_of t) p)) (cell_rows t)

unfoldable pub put : Tables → ℕ → Position → ℕ → ℕ → Tables
put t s p d k =
    let r = new_record t s p d k in
    tables (set t.nums s (nums_of r)) (set t.reals s (reals_of r)) (set t.ints s (ints_of r))
    (counting (taken t.map s) (length (entries_with t s p)) (length (rows_with t p)))
    (written (map row_of (entries_with t s p)) t.pool)
    (written (map spot_of (entries_with t s p)) t.spots)
    (written (rows_with t p) t.cells)

-- its tests, by the verdict of the check, whether the position is in the domain, the tracker, and the slot
abbrev pub insert_tests_by : Bool → Bool → ℕ → Option ℕ → List Refusal
insert_tests_by held inside k u = unless held 3 ∷ unless inside 6 ∷ tracker_test k ∷ unless (is_some u) 4 ∷ []

abbrev pub insert_tests : Tables → Position → ℕ → List Refusal
insert_tests t p k = insert_tests_by (holds t) (position_in_domain p) k (usable_slot t)

unfoldable pub insert_answer : Tables → Position → ℕ → ℕ
insert_answer t p k = first_of (insert_tests t p k)

-- data d, for tracker k
unfoldable pub insert_of : Tables → Position → ℕ → ℕ → Outcome Inserted
unfolding insert_answer put
insert_of t p d k =
    let s = slot_in (usable_slot t) in
    by_tests (insert_tests t p k) (outcome (inserted 0 s (version_at t.nums s)) (put t s p d k)) (λ a. outcome (inserted a 0 0) t)
