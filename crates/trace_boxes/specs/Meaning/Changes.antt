-- The lines that change the boxes: each is a call of the grid, and says its answer and what it returned. Assumes nothing.
use Rattle.basics.specs.Words.{ℕ}
use Rattle.slots.specs.declared.Handle.{Handle}
use Rattle.box_tables.specs.Meaning.Tables.{Tables}
use Rattle.box_tables.specs.Meaning.Outcome.{Outcome, outcome}
use Rattle.box_insert.specs.Meaning.Insert.{insert_of}
use Rattle.box_set.specs.Meaning.SetAabb.{set_aabb_of}
use Rattle.box_remove.specs.Meaning.Remove.{remove_of}
use Rattle.trace_printing.specs.declared.Said.{Said}
use Rattle.trace_lines.specs.declared.Spot.{Spot}
use Rattle.trace_lines.specs.declared.BoxChange.{BoxChange}
use Rattle.trace_lines.specs.declared.BoxChange.TheVariants.{Bin, Bset, Brem}
use Rattle.trace_telling.specs.Meaning.Places.{box_of}
use Rattle.trace_telling.specs.Meaning.Tells.{done_or, one_or, two_or}

-- what is said of what a call returned; the tables are those after the call
abbrev pub box_call_said : {R : Type 0} → (R → Said) → Outcome R → Outcome Said
box_call_said tell o = outcome (tell o.result) o.after

-- `bin`: slot and version
abbrev pub inserted_of : Tables → Spot → Spot → ℕ → Outcome Said
inserted_of t ll ur d = box_call_said (λ r. two_or r.answer r.handle.slot r.handle.version) (insert_of t (box_of ll ur) d)

-- `bset`: nothing more
abbrev pub placed_of : Tables → Handle → Spot → Spot → Outcome Said
placed_of t h ll ur = box_call_said done_or (set_aabb_of t h (box_of ll ur))

-- `brem`: the data
abbrev pub taken_of : Tables → Handle → Outcome Said
taken_of t h = box_call_said (λ r. one_or r.answer r.obj) (remove_of t h)

-- the line, with what its record says
unfoldable pub change_of : Tables → BoxChange → Handle → Spot → Spot → ℕ → Outcome Said
change_of t Bin h p q n = inserted_of t p q n
change_of t Bset h p q n = placed_of t h p q
change_of t Brem h p q n = taken_of t h
