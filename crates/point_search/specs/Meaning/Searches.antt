-- The search that the three queries of a point grid are: the entries of a range that pass a test, in range order and then in list order; a
-- finding is handle, position, data and tracker. Assumes nothing.
use Rattle.std.specs.Prelude.{◌∷◌, ◌++◌, Float}
use Rattle.basics.specs.Words.{ℕ, min, Bool, true, List, [], map, length, eqb, leb}
use Rattle.basics.specs.Meaning.Limits.{most_cells}
use Rattle.basics.specs.Meaning.Refusals.{Refusal, unless, first_of, pick, by_tests}
use Rattle.geometry.specs.declared.Position.{Position}
use Rattle.geometry.specs.Meaning.Circle.{in_circle}
use Rattle.geometry.specs.Meaning.Rectangle.{in_rectangle}
use Rattle.cells.specs.Meaning.CellRule.{cell_at}
use Rattle.cells.specs.Meaning.Range.{cells_in}
use Rattle.slots.specs.Meaning.Slot.{version_at}
use Rattle.storage.specs.Meaning.Keyed.{filter, written}
use Rattle.storage.specs.Meaning.Entries.{Entry, entry_key}
use Rattle.storage.specs.Meaning.Walk.{walked}
use Rattle.point_records.specs.Meaning.Columns.{position_in}
use Rattle.point_records.specs.Meaning.Word.{tracker_at}
use Rattle.point_tables.specs.Meaning.Tables.{Tables, size_of, record_on, entries_in, slot_of}
use Rattle.point_tables.specs.Meaning.Decide.{holds}
use Rattle.point_search.specs.declared.Finding.{Finding}
use Rattle.point_search.specs.declared.Test.{Test}
use Rattle.point_search.specs.declared.Test.TheVariants.{Any, Circle, Rectangle}
use Rattle.replies.specs.declared.Count.{Count}
use Rattle.replies.specs.Meaning.Replies.{count}

abbrev pub passes : Test → Position → Bool
passes Any p = true
passes (Circle c r) p = in_circle p c r
passes (Rectangle ll ur) p = in_rectangle p ll ur

abbrev pub position_of : Entry → Position
position_of e = position_in e.spot

-- the entries found in the range of the corners ll and ur: the position that an entry has is the recorded one
unfoldable pub found : Tables → Position → Position → Test → List Entry
found t ll ur test = filter (λ e. passes test (position_of e)) (walked entry_key (cell_at (size_of t) ll) (cell_at (size_of t) ur) (entries_in t))

-- ---- a finding: the handle of a slot, a position, and the slot's data and tracker
abbrev pub finding_on : Tables → Entry → Finding
finding_on t e =
    let s = slot_of e in
    record {
      handle = record { slot = s; version = version_at t.nums s };
      position = position_of e;
      obj = (record_on t s).obj;
      tracker = tracker_at t.nums s;
    }

-- its rows: (slot, version), (x, y) and (data, tracker)
abbrev pub handle_row : Finding → List ℕ
handle_row f = f.handle.slot ∷ f.handle.version ∷ []

abbrev pub place_row : Finding → List Float
place_row f = f.position.x ∷ f.position.y ∷ []

abbrev pub obj_row : Finding → List ℕ
obj_row f = f.obj ∷ f.tracker ∷ []

-- ---- the outputs of a query: a column for each part of a finding
pub record Outputs : Type 0 where
  pub handles : List (List ℕ)
  pub places : List (List Float)
  pub objs : List (List ℕ)

abbrev pub outputs : List (List ℕ) → List (List Float) → List (List ℕ) → Outputs
outputs h p o = record { handles = h; places = p; objs = o }

-- the places that every column has
abbrev pub room : Outputs → ℕ
room o = min (length o.handles) (min (length o.places) (length o.objs))

-- what is reported of each of a list, from place 0 of every column on
abbrev pub filling : {A : Type 0} → (A → Finding) → List A → Outputs → Outputs
filling report l o =
    outputs
    (written (map (λ a. handle_row (report a)) l) o.handles)
    (written (map (λ a. place_row (report a)) l) o.places)
    (written (map (λ a. obj_row (report a)) l) o.objs)

-- ---- what a query returns, and its outputs after it
pub record Findings : Type 0 where
  pub returned : Count
  pub outputs : Outputs

abbrev pub findings : Count → Outputs → Findings
findings c o = record { returned = c; outputs = o }

-- done: the number found, and the findings in the outputs
abbrev pub report_of : {A : Type 0} → (A → Finding) → List A → Outputs → Findings
report_of report l o = findings (count 0 (length l)) (filling report l o)

-- ---- what is asked of a range before anything is looked for in it. `ok` says whether the numbers that a call was given are in the domain
abbrev pub range_tests : Tables → Bool → Position → Position → List Refusal
range_tests t ok ll ur =
    unless (holds t) 3
    ∷ unless ok 6
    ∷ unless (leb (cells_in (cell_at (size_of t) ll) (cell_at (size_of t) ur)) most_cells) 7
    ∷ []

-- ---- the search that the three queries are
abbrev pub search_tests : Tables → Bool → Position → Position → Test → ℕ → List Refusal
search_tests t ok ll ur test room = range_tests t ok ll ur ++ (unless (leb (length (found t ll ur test)) room) 9 ∷ [])

unfoldable pub search_answer : Tables → Bool → Position → Position → Test → ℕ → ℕ
unfolding found
search_answer t ok ll ur test room = first_of (search_tests t ok ll ur test room)

-- 9 returns the number found
unfoldable pub search_of : Tables → Bool → Position → Position → Test → Outputs → Findings
unfolding search_answer found
search_of t ok ll ur test o =
    let es = found t ll ur test in
    by_tests (search_tests t ok ll ur test (room o))
    (report_of (finding_on t) es o)
    (λ a. findings (count a (pick (eqb a 9) (length es) 0)) o)
