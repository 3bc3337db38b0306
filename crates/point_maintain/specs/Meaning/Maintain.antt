-- `maintain`, as `src/grid.rs` does it: each list is walked, then the relocated entries are appended to their new cells in ascending slot
-- order; a cell with no dirty mark is passed over, and no mark is left. Assumes nothing.
use Rattle.std.specs.Prelude.{◌+◌, ◌∷◌, ◌++◌}
use Rattle.basics.specs.Words.{ℕ, zero, suc, Bool, false, List, [], map, length, get_or, eqb}
use Rattle.basics.specs.Meaning.Refusals.{Refusal, unless, pick, by_tests}
use Rattle.slots.specs.Meaning.Slot.{live, phase_at}
use Rattle.storage.specs.Meaning.Keyed.{filter, under, on_list, append_all, written}
use Rattle.storage.specs.Meaning.Entries.{Entry, row_key, row_of, spot_of, entry_key}
use Rattle.storage.specs.Meaning.CellTable.{fresh}
use Rattle.point_records.specs.declared.State.{State}
use Rattle.point_records.specs.declared.Record.{Record}
use Rattle.point_records.specs.Meaning.States.{is_removed}
use Rattle.point_tables.specs.Meaning.Tables.{Tables, tables, counting, slots_of, record_on, entries_in, cell_rows, slot_of}
use Rattle.point_tables.specs.Meaning.Decide.{holds}
use Rattle.point_tables.specs.Meaning.Outcome.{Outcome, outcome}
use Rattle.point_maintain.specs.declared.Maintained.{Maintained}
use Rattle.point_maintain.specs.Meaning.Walk.{walk}
use Rattle.point_maintain.specs.Meaning.Moved.{has_moved}

-- ---- the lists, one after the other
-- whether cell k is marked dirty
abbrev pub is_dirty : List (List ℕ) → ℕ → Bool
is_dirty [] k = false
is_dirty (r ∷ rs) k = pick (eqb (row_key r) k) (eqb (get_or r 1 0) 1) (is_dirty rs k)

-- the records so far, the lists so far, and what is to be relocated so far
pub record Sweep : Type 0 where
  pub records : Tables
  pub entries : List Entry
  pub moving : List Entry

-- the list of cell k is walked, if the cell is dirty
unfoldable pub visit : List (List ℕ) → Sweep → ℕ → Sweep
visit rows w k =
    let l = under entry_key k w.entries in
    let v = walk (length l) w.records l in
    pick (is_dirty rows k)
    (record { records = v.records; entries = on_list entry_key k (λ m. v.kept) w.entries; moving = w.moving ++ v.moving })
    w

unfoldable pub sweep : List (List ℕ) → Sweep → List ℕ → Sweep
unfolding visit
sweep rows w [] = w
sweep rows w (k ∷ ks) = sweep rows (visit rows w k) ks

-- ---- the relocated entries, in ascending order of their slots
unfoldable pub by_slot : ℕ → List Entry → List Entry
by_slot zero es = []
by_slot (suc n) es = by_slot n es ++ filter (λ e. eqb (slot_of e) n) es

-- ---- maintain, visiting the cells in the order of ks
unfoldable pub swept : Tables → List ℕ → Sweep
unfolding sweep
swept t ks = sweep (cell_rows t) (record { records = t; entries = entries_in t; moving = [] }) ks

unfoldable pub entries_after : Tables → List ℕ → List Entry
unfolding swept by_slot
entries_after t ks = append_all entry_key (swept t ks).entries (by_slot (slots_of t) (swept t ks).moving)

unfoldable pub maintained_by : List ℕ → Tables → Tables
unfolding swept entries_after
maintained_by ks t =
    let r = (swept t ks).records in
    let es = entries_after t ks in
    let cs = fresh (map row_of es) in
    tables r.nums r.reals r.ints (counting r.map (length es) (length cs))
    (written (map row_of es) t.pool) (written (map spot_of es) t.spots) (written cs t.cells)

-- the cells in use, in the order of the table
abbrev pub cell_keys : Tables → List ℕ
cell_keys t = map row_key (cell_rows t)

unfoldable pub maintained : Tables → Tables
unfolding maintained_by
maintained t = maintained_by (cell_keys t) t

-- ---- the counts, from the records before: objects that have moved, and objects removed
-- the objects below slot n whose record passes
abbrev pub count_records : (Record → Bool) → Tables → ℕ → ℕ
count_records test t zero = 0
count_records test t (suc n) = count_records test t n + pick (eqb (phase_at t.nums n) live) (pick (test (record_on t n)) 1 0) 0

-- those whose state passes
abbrev pub count_states : (State → Bool) → Tables → ℕ → ℕ
count_states test t n = count_records (λ r. test r.state) t n

abbrev pub maintained_counts : ℕ → ℕ → ℕ → Maintained
maintained_counts a m r = record { answer = a; moved = m; removed = r }

abbrev pub maintain_tests : Tables → List Refusal
maintain_tests t = unless (holds t) 3 ∷ []

unfoldable pub maintain_of : Tables → Outcome Maintained
unfolding maintained
maintain_of t =
    by_tests (maintain_tests t)
    (outcome (maintained_counts 0 (count_records has_moved t (slots_of t)) (count_states is_removed t (slots_of t))) (maintained t))
    (λ a. outcome (maintained_counts a 0 0) t)
