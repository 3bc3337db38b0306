-- The walk of one list, as `src/cell.rs` does it: from place 0; a new position is taken, next place; a relocated or removed entry is taken
-- out, the last entry moving into the gap, and the same place is looked at again. Assumes nothing.
use Rattle.std.specs.Prelude.{◌∷◌, ◌++◌}
use Rattle.basics.specs.Words.{ℕ, zero, suc, List, []}
use Rattle.geometry.specs.declared.Position.{Position}
use Rattle.cells.specs.Meaning.CellRule.{cell_at}
use Rattle.cells.specs.declared.Cell.{Cell}
use Rattle.cells.specs.Meaning.Key.{key_of}
use Rattle.slots.specs.Meaning.Slot.{emptied_nums, emptied_map}
use Rattle.storage.specs.Meaning.Keyed.{close}
use Rattle.storage.specs.Meaning.Entries.{Entry, entry}
use Rattle.point_records.specs.declared.State.{State}
use Rattle.point_records.specs.declared.State.TheVariants.{Unchanged, NewPos, Relocate, Removed}
use Rattle.point_records.specs.declared.Record.{Record}
use Rattle.point_tables.specs.Meaning.Tables.{Tables, tables, size_of, record_on, slot_of}
use Rattle.point_tables.specs.Meaning.Outcome.{stored}

-- an entry's row stays, and it takes a position
abbrev pub entry_taking : Entry → Position → Entry
entry_taking e p = entry e.row (p.x ∷ p.y ∷ [])

-- the entry of slot s at p, in the list of p's cell
abbrev pub entry_for : ℕ → ℕ → Position → Entry
entry_for size s p = entry (key_of (cell_at size p) ∷ s ∷ []) (p.x ∷ p.y ∷ [])

-- ---- the record of an object once what is pending is done
abbrev pub record_taking : Record → Position → Cell → Record
record_taking r p c = record { version = r.version; phase = r.phase; obj = r.obj; position = p; cell = c; state = Unchanged; tracker = r.tracker }

abbrev pub emptied : Tables → ℕ → Tables
emptied t s = tables (emptied_nums t.nums s) t.reals t.ints (emptied_map t.nums t.map s) t.pool t.spots t.cells

abbrev pub settled_by : Tables → ℕ → State → Tables
settled_by t s Unchanged = t
settled_by t s (NewPos p) = stored t s (record_taking (record_on t s) p (record_on t s).cell) t.cells
settled_by t s (Relocate p c) = stored t s (record_taking (record_on t s) p c) t.cells
settled_by t s Removed = emptied t s

unfoldable pub settled : Tables → ℕ → Tables
settled t s = settled_by t s (record_on t s).state

-- ---- the walk: what it leaves of the tables' records, what it keeps of the list, and what is to be relocated
pub record Walked : Type 0 where
  pub records : Tables
  pub kept : List Entry
  pub moving : List Entry

-- an entry stays, changed or not, or leaves; a relocated one is to be entered elsewhere
pub data Fate : Type 0 where
  stays : Entry → Fate
  leaves : List Entry → Fate

abbrev pub fate_by : ℕ → Entry → State → Fate
fate_by size e Unchanged = stays e
fate_by size e (NewPos p) = stays (entry_taking e p)
fate_by size e (Relocate p c) = leaves (entry_for size (slot_of e) p ∷ [])
fate_by size e Removed = leaves []

abbrev pub fate : Tables → Entry → Fate
fate t e = fate_by (size_of t) e (record_on t (slot_of e)).state

abbrev pub staying : Fate → List Entry
staying (stays e) = e ∷ []
staying (leaves m) = []

abbrev pub leaving : Fate → List Entry
leaving (stays e) = []
leaving (leaves m) = m

-- what is then looked at next: the rest, or the rest with its last entry in the gap
abbrev pub rest : Fate → List Entry → List Entry
rest (stays e) es = es
rest (leaves m) es = close es

abbrev pub walked_after : Fate → Walked → Walked
walked_after f w = record { records = w.records; kept = staying f ++ w.kept; moving = leaving f ++ w.moving }

-- the first number is at least the length of the list
unfoldable pub walk : ℕ → Tables → List Entry → Walked
walk zero t es = record { records = t; kept = es; moving = [] }
walk (suc n) t [] = record { records = t; kept = []; moving = [] }
walk (suc n) t (e ∷ es) = walked_after (fate t e) (walk n (settled t (slot_of e)) (rest (fate t e) es))
