-- The state of an object, and the record with another state. Assumes nothing.
use Rattle.basics.specs.Words.{ℕ, Bool, true, false}
use Rattle.basics.specs.Meaning.Says.{said}
use Rattle.basics.specs.Meaning.Refusals.{pick}
use Rattle.geometry.specs.declared.Position.{Position}
use Rattle.cells.specs.declared.Cell.{Cell}
use Rattle.cells.specs.Meaning.CellRule.{cell_at}
use Rattle.point_records.specs.declared.State.{State}
use Rattle.point_records.specs.declared.State.TheVariants.{Unchanged, NewPos, Relocate, Removed}
use Rattle.point_records.specs.declared.Record.{Record}
use Rattle.point_records.specs.Inner.Decide.{d_cell}

abbrev pub is_removed : State → Bool
is_removed Unchanged = false
is_removed (NewPos p) = false
is_removed (Relocate p c) = false
is_removed Removed = true

-- what `set_position` makes pending for an object of cell c: a new position, or a relocation if the target cell differs
unfoldable pub aimed : ℕ → Cell → Position → State
aimed size c p = pick (said (d_cell (cell_at size p) c)) (NewPos p) (Relocate p (cell_at size p))

abbrev pub with_state : Record → State → Record
with_state r s = record { version = r.version; phase = r.phase; obj = r.obj; position = r.position; cell = r.cell; state = s; tracker = r.tracker }
