-- A record out of the three columns, and the row that a record takes in each.
-- nums: version, phase, obj (the data), word (tracker and tag). reals: x, y, pending x, pending y. ints: cell x, cell y, target x, target y.
-- The tag: 0 Unchanged, 1 NewPos, 2 Relocate, any other Removed. Where nothing is pending the row repeats the position and the cell.
use Rattle.std.specs.Prelude.{◌∷◌, Float}
use Rattle.basics.specs.Words.{ℕ, Bool, true, false, List, [], get_or, eqb, ℤ, pos}
use Rattle.std.specs.Float.{nan}
use Rattle.geometry.specs.declared.Position.{Position}
use Rattle.cells.specs.declared.Cell.{Cell}
use Rattle.point_records.specs.declared.State.{State}
use Rattle.point_records.specs.declared.State.TheVariants.{Unchanged, NewPos, Relocate, Removed}
use Rattle.point_records.specs.declared.Record.{Record}
use Rattle.point_records.specs.Meaning.Word.{word_of, tag_in, tracker_in}
use Rattle.point_records.specs.Meaning.Trackers.{tracker_number, tracker_of}

abbrev pub pick_state : Bool → State → State → State
pick_state true a b = a
pick_state false a b = b

-- the state that a tag says, with the pending position and cell
abbrev pub state_of : ℕ → Position → Cell → State
state_of tag p c = pick_state (eqb tag 0) Unchanged (pick_state (eqb tag 1) (NewPos p) (pick_state (eqb tag 2) (Relocate p c) Removed))

-- the state that a tag says of rows q and z
abbrev pub pending_in : ℕ → List Float → List ℤ → State
pending_in tag q z = state_of tag (record { x = get_or q 2 nan; y = get_or q 3 nan }) (record { x = get_or z 2 (pos 0); y = get_or z 3 (pos 0) })

-- the position that a row begins with
abbrev pub position_in : List Float → Position
position_in q = record { x = get_or q 0 nan; y = get_or q 1 nan }

-- the record whose rows are n, q and z
abbrev pub record_of : List ℕ → List Float → List ℤ → Record
record_of n q z =
    record {
      version = get_or n 0 0;
      phase = get_or n 1 0;
      obj = get_or n 2 0;
      position = position_in q;
      cell = record { x = get_or z 0 (pos 0); y = get_or z 1 (pos 0) };
      state = pending_in (tag_in n) q z;
      tracker = tracker_of (tracker_in n);
    }

-- the record at index i of the columns
abbrev pub record_at : List (List ℕ) → List (List Float) → List (List ℤ) → ℕ → Record
record_at ns qs zs i = record_of (get_or ns i []) (get_or qs i []) (get_or zs i [])

abbrev pub tag_of : State → ℕ
tag_of Unchanged = 0
tag_of (NewPos p) = 1
tag_of (Relocate p c) = 2
tag_of Removed = 3

-- the pending position and cell of a state, else p and c
abbrev pub pending_of : State → Position → Position
pending_of Unchanged p = p
pending_of (NewPos q) p = q
pending_of (Relocate q d) p = q
pending_of Removed p = p

abbrev pub target_of : State → Cell → Cell
target_of Unchanged c = c
target_of (NewPos q) c = c
target_of (Relocate q d) c = d
target_of Removed c = c

-- the row of a record in each column
abbrev pub nums_of : Record → List ℕ
nums_of r = r.version ∷ r.phase ∷ r.obj ∷ word_of (tracker_number r.tracker) (tag_of r.state) ∷ []

abbrev pub reals_of : Record → List Float
reals_of r = r.position.x ∷ r.position.y ∷ (pending_of r.state r.position).x ∷ (pending_of r.state r.position).y ∷ []

abbrev pub ints_of : Record → List ℤ
ints_of r = r.cell.x ∷ r.cell.y ∷ (target_of r.state r.cell).x ∷ (target_of r.state r.cell).y ∷ []
