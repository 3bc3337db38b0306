-- The lines that change the points: each is a call of the grid, and says its answer and what it returned; k is the number of the tracker that
-- makes the call. Assumes nothing.
use Rattle.basics.specs.Words.{ℕ}
use Rattle.slots.specs.declared.Handle.{Handle}
use Rattle.point_tables.specs.Meaning.Tables.{Tables}
use Rattle.point_tables.specs.Meaning.Outcome.{Outcome, outcome}
use Rattle.point_insert.specs.Meaning.Insert.{insert_of}
use Rattle.point_deferred.specs.Meaning.Moves.{set_position_of, remove_of}
use Rattle.point_remove.specs.Meaning.RemoveMaintain.{remove_maintain_of}
use Rattle.point_maintain.specs.Meaning.Maintain.{maintain_of}
use Rattle.trace_printing.specs.declared.Said.{Said}
use Rattle.trace_lines.specs.declared.Spot.{Spot}
use Rattle.trace_lines.specs.declared.PointChange.{PointChange}
use Rattle.trace_lines.specs.declared.PointChange.TheVariants.{Ins, Pos, Rem, Now, Mnt}
use Rattle.trace_telling.specs.Meaning.Places.{place_of}
use Rattle.trace_telling.specs.Meaning.Tells.{done_or, one_or, two_or}

-- what is said of what a call returned; the tables are those after the call
abbrev pub point_call_said : {R : Type 0} → (R → Said) → Outcome R → Outcome Said
point_call_said tell o = outcome (tell o.result) o.after

-- `ins`: slot and version
abbrev pub inserted_of : Tables → Spot → ℕ → ℕ → Outcome Said
inserted_of t p d k = point_call_said (λ r. two_or r.answer r.handle.slot r.handle.version) (insert_of t (place_of p) d k)

-- `pos`: nothing more
abbrev pub moved_of : Tables → Handle → Spot → ℕ → Outcome Said
moved_of t h p k = point_call_said (λ r. done_or r.answer) (set_position_of t h (place_of p) k)

-- `rem` and `now`: the data
abbrev pub marked_of : Tables → Handle → ℕ → Outcome Said
marked_of t h k = point_call_said (λ r. one_or r.answer r.obj) (remove_of t h k)

abbrev pub taken_of : Tables → Handle → ℕ → Outcome Said
taken_of t h k = point_call_said (λ r. one_or r.answer r.obj) (remove_maintain_of t h k)

-- `mnt`: how many moved, and how many were removed
abbrev pub maintained_of : Tables → Outcome Said
maintained_of t = point_call_said (λ r. two_or r.answer r.moved r.removed) (maintain_of t)

-- the line, with what its record says
unfoldable pub change_of : Tables → PointChange → Handle → Spot → ℕ → ℕ → Outcome Said
change_of t Ins h p n k = inserted_of t p n k
change_of t Pos h p n k = moved_of t h p k
change_of t Rem h p n k = marked_of t h k
change_of t Now h p n k = taken_of t h k
change_of t Mnt h p n k = maintained_of t
