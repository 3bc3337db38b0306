-- The tables with everything done that was to be done, with no order of the cells in it; and what an order of visiting them is.
-- Assumes nothing.
-- Here: what only inner contracts cite.
use Rattle.std.specs.Prelude.{◌∷◌, ◌++◌}
use Rattle.basics.specs.Words.{ℕ, zero, suc, List, [], map, length}
use Rattle.basics.specs.Meaning.Refusals.{pick}
use Rattle.storage.specs.Meaning.Keyed.{under, append_all, written}
use Rattle.storage.specs.Meaning.Entries.{Entry, row_of, spot_of, entry_key}
use Rattle.storage.specs.Meaning.CellTable.{fresh}
use Rattle.point_records.specs.declared.State.{State}
use Rattle.point_records.specs.declared.State.TheVariants.{Unchanged, NewPos, Relocate, Removed}
use Rattle.point_tables.specs.Meaning.Tables.{Tables, tables, counting, size_of, slots_of, record_on, entries_in}
use Rattle.point_tables.specs.Inner.Count.{is_live}
use Rattle.point_maintain.specs.Meaning.Walk.{entry_for, fate}
use Rattle.point_maintain.specs.Meaning.Maintain.{cell_keys}
use Rattle.point_maintain.specs.Inner.Settle.{settled_all}
use Rattle.point_maintain.specs.Inner.Kept.{kept}

-- the lists that a function has for numbers, one after the other
abbrev pub joined : {A : Type 0} → (ℕ → List A) → List ℕ → List A
joined f [] = []
joined f (k ∷ ks) = f k ++ joined f ks

-- ---- each list, walked by itself
unfoldable pub kept_under : Tables → ℕ → List Entry
unfolding kept
kept_under t k = kept (fate t) (under entry_key k (entries_in t))

unfoldable pub kept_entries : Tables → List Entry
unfolding kept_under
kept_entries t = joined (kept_under t) (cell_keys t)

-- ---- the entries that relocated objects have in their new cells, in ascending order of their slots, read off the records
abbrev pub relocated_by : ℕ → ℕ → State → List Entry
relocated_by size i Unchanged = []
relocated_by size i (NewPos p) = []
relocated_by size i (Relocate p c) = entry_for size i p ∷ []
relocated_by size i Removed = []

abbrev pub relocated_at : Tables → ℕ → List Entry
relocated_at t i = pick (is_live t i) (relocated_by (size_of t) i (record_on t i).state) []

unfoldable pub relocated_below : ℕ → Tables → List Entry
relocated_below zero t = []
relocated_below (suc n) t = relocated_below n t ++ relocated_at t n

-- ---- the tables of t with the records of r and the lists of es, no cell of which is marked
abbrev pub relisted : Tables → List Entry → Tables → Tables
relisted r es t =
    tables r.nums r.reals r.ints (counting r.map (length es) (length (fresh (map row_of es))))
    (written (map row_of es) t.pool) (written (map spot_of es) t.spots) (written (fresh (map row_of es)) t.cells)

unfoldable pub settled_entries : Tables → List Entry
unfolding kept_entries relocated_below
settled_entries t = append_all entry_key (kept_entries t) (relocated_below (slots_of t) t)

unfoldable pub settled_tables : Tables → Tables
unfolding settled_all settled_entries
settled_tables t = relisted (settled_all t) (settled_entries t) t
