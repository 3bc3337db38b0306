-- The two counts of `maintain`, from the columns of numbers and of positions alone. Assumes nothing.
use Rattle.basics.specs.Words.{ℕ, Bool, List, [], get_or, eqb}
use Rattle.std.specs.Prelude.{Float}
use Rattle.std.specs.Float.{nan}
use Rattle.basics.specs.Meaning.Refusals.{pick}
use Rattle.slots.specs.Meaning.Slot.{live}
use Rattle.point_records.specs.declared.State.{State}
use Rattle.point_records.specs.Meaning.Columns.{pending_in, position_in}
use Rattle.point_records.specs.Meaning.States.{is_removed}
use Rattle.point_tables.specs.Meaning.Tables.{Tables, tables}
use Rattle.point_maintain.specs.Meaning.Moved.{differs, moves_from, has_moved}
use Rattle.point_maintain.specs.Meaning.Maintain.{count_records, count_states}
use Rattle.point_maintain_slots.specs.declared.Counts.{Counts}

abbrev pub counts : ℕ → ℕ → Counts
counts m r = record { moved = m; removed = r }

-- tables with these two columns alone
abbrev pub columns : List (List ℕ) → List (List Float) → Tables
columns nums reals = tables nums reals [] [] [] [] []

abbrev pub moved_in : Tables → ℕ → ℕ
moved_in t n = count_records has_moved t n

abbrev pub removed_in : Tables → ℕ → ℕ
removed_in t n = count_states is_removed t n

-- whether the pending place of a row of reals is another than the recorded one
abbrev pub differs_in : List Float → Bool
differs_in q = differs (record { x = get_or q 2 nan; y = get_or q 3 nan }) (position_in q)

-- what one slot adds, by its phase, its tag and its row of reals
abbrev pub state_by : ℕ → List Float → State
state_by tag q = pending_in tag q []

abbrev pub one_moved : ℕ → ℕ → List Float → ℕ
one_moved phase tag q = pick (eqb phase live) (pick (moves_from (position_in q) (state_by tag q)) 1 0) 0

abbrev pub one_removed : ℕ → ℕ → ℕ
one_removed phase tag = pick (eqb phase live) (pick (is_removed (state_by tag [])) 1 0) 0
