-- A slot settled, row by row: what comes of each row depends on the rows of that slot alone. Assumes nothing.
use Rattle.basics.specs.Words.{ℕ, ◌≤◌, ◌≡◌, refl, sym, ◌∙◌, Bool, false, not, List, [], get_or, set, set-get_or, get_or-drop, eqb, ℤ}
use lib.Ieee.{Float}
use Rattle.basics.specs.Meaning.Refusals.{pick}
use Rattle.slots.specs.Meaning.Map.{given_back}
use Rattle.slots.specs.Meaning.Slot.{last_version, next_version, next_phase, version_at, emptied_row, emptied_nums, emptied_map}
use Rattle.storage.proofs.laws.FilterLaws.{by_test}
use Rattle.point_records.specs.declared.State.{State}
use Rattle.point_records.specs.declared.State.TheVariants.{Unchanged, NewPos, Relocate, Removed}
use Rattle.point_records.specs.declared.Record.{Record}
use Rattle.point_records.specs.Meaning.Columns.{record_of, nums_of, reals_of, ints_of}
use Rattle.point_records.specs.Meaning.Word.{tracker_in, word_in, last_word}
use Rattle.point_records.proofs.laws.WordLaws.{number_in}
use Rattle.point_records.proofs.laws.ColumnLaws.{number_of_row, word_of_row, record_back}
use Rattle.point_tables.specs.Meaning.Tables.{Tables, tables, record_on}
use Rattle.point_maintain.specs.Meaning.Walk.{record_taking, settled_by, settled}

-- ---- the record of an object once what is pending is done
-- a removed object's slot is emptied: the version rises, and the rest of the record stays
abbrev pub settled_as : Record → State → Record
settled_as r Unchanged = r
settled_as r (NewPos p) = record_taking r p r.cell
settled_as r (Relocate p c) = record_taking r p c
settled_as r Removed =
    record { version = next_version r.version; phase = next_phase r.version; obj = r.obj; position = r.position; cell = r.cell; state = r.state; tracker = r.tracker }

abbrev pub settled_record : Record → Record
settled_record r = settled_as r r.state

-- ---- the three rows of a slot
pub record Rows : Type 0 where
  pub nums : List ℕ
  pub reals : List Float
  pub ints : List ℤ

abbrev pub rows_at : Tables → ℕ → Rows
rows_at t s = record { nums = get_or t.nums s []; reals = get_or t.reals s []; ints = get_or t.ints s [] }

abbrev pub record_in : Rows → Record
record_in w = record_of w.nums w.reals w.ints

abbrev pub rows_by : Rows → State → Rows
rows_by w Unchanged = w
rows_by w (NewPos p) =
    let r = record_taking (record_in w) p (record_in w).cell in
    record { nums = nums_of r; reals = reals_of r; ints = ints_of r }
rows_by w (Relocate p c) =
    let r = record_taking (record_in w) p c in
    record { nums = nums_of r; reals = reals_of r; ints = ints_of r }
rows_by w Removed = record { nums = emptied_row w.nums; reals = w.reals; ints = w.ints }

-- the rows after the slot is settled
unfoldable pub rows_after : Rows → Rows
rows_after w = rows_by w (record_in w).state

-- whether the slot comes back into the map
abbrev pub back_by : ℕ → State → Bool
back_by v Unchanged = false
back_by v (NewPos p) = false
back_by v (Relocate p c) = false
back_by v Removed = not (eqb v last_version)

unfoldable pub comes_back : Rows → Bool
comes_back w = back_by (record_in w).version (record_in w).state

-- the tables with the rows w for slot s, whose bit is set if b
abbrev pub placed_rows : Tables → ℕ → Rows → Bool → Tables
placed_rows t s w b =
    tables (set t.nums s w.nums) (set t.reals s w.reals) (set t.ints s w.ints) (pick b (given_back t.map s) t.map) t.pool t.spots t.cells

pub settled_form : (t : Tables) (s : ℕ) → settled t s ≡ placed_rows t s (rows_after (rows_at t s)) (comes_back (rows_at t s))
unfolding settled rows_after comes_back
settled_form t s = go (record_on t s).state
  where
    same_rows : tables (set t.nums s (get_or t.nums s [])) (set t.reals s (get_or t.reals s [])) (set t.ints s (get_or t.ints s [])) t.map t.pool t.spots t.cells ≡ t
    same_rows = rw (set-get_or t.nums s [], set-get_or t.reals s [], set-get_or t.ints s [])

    go : (st : State) → settled_by t s st ≡ placed_rows t s (rows_by (rows_at t s) st) (back_by (record_on t s).version st)
    go Unchanged = sym same_rows
    go (NewPos p) = refl
    go (Relocate p c) = refl
    go Removed =
        unfold emptied_nums emptied_map in
        rw (set-get_or t.reals s [], set-get_or t.ints s [])
        (by_test (eqb (version_at t.nums s) last_version) (λ e. rw e) (λ e. rw e))

-- the record that is read from the rows after
pub rows_record : (w : Rows) → record_in (rows_after w) ≡ settled_record (record_in w)
unfolding rows_after
rows_record w = go (record_in w).state
  where
    go : (st : State) → record_in (rows_by w st) ≡ settled_as (record_in w) st
    go Unchanged = refl
    go (NewPos p) = record_back (record_taking (record_in w) p (record_in w).cell)
    go (Relocate p c) = record_back (record_taking (record_in w) p c)
    go Removed = rw (get_or-drop 2 w.nums 0 0, get_or-drop 2 w.nums 1 0)

-- the word of a row: settling makes a word that fits, or leaves it
pub rows-worded : (w : Rows) → word_in w.nums ≤ last_word → word_in (rows_after w).nums ≤ last_word
unfolding rows_after
rows-worded w l = go (record_in w).state
  where
    go : (st : State) → word_in (rows_by w st).nums ≤ last_word
    go Unchanged = l
    go (NewPos p) = word_of_row (record_taking (record_in w) p (record_in w).cell)
    go (Relocate p c) = word_of_row (record_taking (record_in w) p c)
    go Removed = rw (get_or-drop 2 w.nums 1 0) l

-- and the tracker stays, also in the row of a slot that is emptied
pub rows-tracker : (w : Rows) → tracker_in (rows_after w).nums ≡ tracker_in w.nums
unfolding rows_after
rows-tracker w = go (record_in w).state
  where
    go : (st : State) → tracker_in (rows_by w st).nums ≡ tracker_in w.nums
    go Unchanged = refl
    go (NewPos p) = number_of_row (record_taking (record_in w) p (record_in w).cell) ∙ number_in w.nums
    go (Relocate p c) = number_of_row (record_taking (record_in w) p c) ∙ number_in w.nums
    go Removed = rw (get_or-drop 2 w.nums 1 0)
