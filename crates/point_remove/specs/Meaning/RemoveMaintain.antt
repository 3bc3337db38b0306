-- `remove_maintain` takes the object out now, whatever its state: the last entry of its list moves into the gap. Assumes nothing.
use Rattle.std.specs.Prelude.{◌∷◌}
use Rattle.basics.specs.Words.{ℕ, Bool, true, false, List, [], map, length}
use Rattle.basics.specs.Meaning.Refusals.{Refusal, unless, pick, by_tests}
use Rattle.cells.specs.Meaning.Key.{key_of}
use Rattle.slots.specs.declared.Handle.{Handle}
use Rattle.slots.specs.Meaning.Slot.{emptied_nums, emptied_map}
use Rattle.storage.specs.Meaning.Keyed.{under, on_list, take_out, written}
use Rattle.storage.specs.Meaning.Entries.{Entry, row_of, spot_of, entry_key, is_item}
use Rattle.storage.specs.Meaning.CellTable.{dropped}
use Rattle.point_records.specs.Meaning.Trackers.{own_tests}
use Rattle.point_tables.specs.Meaning.Tables.{Tables, tables, counting, record_on, entries_in, cell_rows}
use Rattle.point_tables.specs.Meaning.Decide.{holds}
use Rattle.point_tables.specs.Meaning.Outcome.{Outcome, outcome}
use Rattle.replies.specs.declared.Reply.{Reply}
use Rattle.replies.specs.Meaning.Replies.{reply}

abbrev pub is_empty : {A : Type 0} → List A → Bool
is_empty [] = true
is_empty (x ∷ l) = false

-- the entries without that of slot s
abbrev pub entries_without : Tables → ℕ → List Entry
entries_without t s = on_list entry_key (key_of (record_on t s).cell) (take_out (λ e. is_item s e.row)) (entries_in t)

-- a cell whose list is empty has no row
abbrev pub rows_without : Tables → ℕ → List (List ℕ)
rows_without t s =
    pick (is_empty (under entry_key (key_of (record_on t s).cell) (entries_without t s))) (dropped (key_of (record_on t s).cell) (cell_rows t)) (cell_rows t)

unfoldable pub taken_out : Tables → ℕ → Tables
taken_out t s =
    tables (emptied_nums t.nums s) t.reals t.ints
    (counting (emptied_map t.nums t.map s) (length (entries_without t s)) (length (rows_without t s)))
    (written (map row_of (entries_without t s)) t.pool)
    (written (map spot_of (entries_without t s)) t.spots)
    (written (rows_without t s) t.cells)

-- by tracker k
abbrev pub remove_maintain_tests : Tables → Handle → ℕ → List Refusal
remove_maintain_tests t h k = unless (holds t) 3 ∷ own_tests t.nums h k

unfoldable pub remove_maintain_of : Tables → Handle → ℕ → Outcome Reply
unfolding taken_out
remove_maintain_of t h k =
    by_tests (remove_maintain_tests t h k) (outcome (reply 0 (record_on t h.slot).obj) (taken_out t h.slot)) (λ a. outcome (reply a 0) t)
