-- The pass over the slots: what it is asked for, one slot's part of it, and what it leaves. Assumes nothing.
-- Here: what only inner contracts cite.
use Rattle.std.specs.Prelude.{◌+◌, ◌/◌, ◌<◌, ◌≤◌, ◌≡◌, ◌∷◌, ◌++◌, Float, Option, None, Some}
use Rattle.basics.specs.Words.{ℕ, List, [], map, length, get_or, set, take, drop, ℤ}
use Rattle.std.specs.Float.{nan}
use Rattle.basics.specs.Meaning.Refusals.{pick}
use Rattle.geometry.specs.declared.Position.{Position}
use Rattle.cells.specs.declared.Cell.{Cell}
use Rattle.cells.specs.Meaning.Key.{key_of}
use Rattle.slots.specs.Meaning.Map.{head}
use Rattle.slots.specs.Meaning.Slot.{live, phase_at}
use Rattle.storage.specs.Meaning.Entries.{row_of}
use Rattle.point_records.specs.declared.State.{State}
use Rattle.point_records.specs.declared.State.TheVariants.{Unchanged, NewPos, Relocate, Removed}
use Rattle.point_records.specs.Meaning.Columns.{record_at, nums_of, reals_of, ints_of}
use Rattle.point_records.specs.Meaning.Occupied.{Agrees}
use Rattle.point_tables.specs.Meaning.Tables.{Tables, tables, size_of, slots_of, record_on}
use Rattle.point_tables.specs.Inner.Count.{is_live}
use Rattle.point_maintain.specs.Meaning.Walk.{record_taking, settled}
use Rattle.point_maintain.specs.Inner.Settle.{settled_all}
use Rattle.point_maintain.specs.Inner.Settle.{Shaped}
use Rattle.point_maintain.specs.Inner.Closed.{relocated_below}

-- ---- tables that have the records and the slot map alone
abbrev pub record_tables : List (List ℕ) → List (List Float) → List (List ℤ) → List ℕ → Tables
record_tables nums reals ints map = tables nums reals ints map [] [] []

-- slot s has its rows and its bit
pub record Slotted (t : Tables) (s : ℕ) : Type 0 where
  pub in_nums : s < length t.nums
  pub in_reals : s < length t.reals
  pub in_ints : s < length t.ints
  pub in_map : head + s / 64 < length t.map

-- every slot has, and the target cell of a relocation is that of its position
pub record Ready (t : Tables) : Type 0 where
  pub shaped : Shaped t
  pub agrees : (s : ℕ) → s < slots_of t → phase_at t.nums s ≡ live → Agrees (size_of t) (record_on t s).cell (record_on t s).state

-- the pool has room for the rows of relocated objects from place w on
abbrev pub Room : Tables → ℕ → List (List ℕ) → Type 0
Room t w pool = w + length (relocated_below (length t.nums) t) ≤ length pool

-- ---- one slot
-- the row of a relocated object: the key of its target cell, and its slot
abbrev pub target_rows : ℕ → State → List (List ℕ)
target_rows s Unchanged = []
target_rows s (NewPos p) = []
target_rows s (Relocate p c) = (key_of c ∷ s ∷ []) ∷ []
target_rows s Removed = []

-- the position that is pending for slot s
abbrev pub pending_at : List (List Float) → ℕ → Position
pending_at qs s = record { x = get_or (get_or qs s []) 2 nan; y = get_or (get_or qs s []) 3 nan }

-- the three columns once the object of slot s stands at its pending position in cell c
abbrev pub Placed : List (List ℕ) → List (List Float) → List (List ℤ) → ℕ → Cell → List (List ℕ) → List (List Float) → List (List ℤ) → Type 0
Placed ns qs zs s c ns' qs' zs' =
    let r = record_taking (record_at ns qs zs s) (pending_at qs s) c in
    (ns' ≡ set ns s (nums_of r)) × (qs' ≡ set qs s (reals_of r)) × (zs' ≡ set zs s (ints_of r))

abbrev pub turned : Tables → ℕ → Tables
turned t s = pick (is_live t s) (settled t s) t

abbrev pub turned_rows : Tables → ℕ → List (List ℕ)
turned_rows t s = pick (is_live t s) (target_rows s (record_on t s).state) []

-- the rows that a turn gives: one or none
abbrev pub rows_given : Option (List ℕ) → List (List ℕ)
rows_given None = []
rows_given (Some row) = row ∷ []

-- ---- every slot
-- a table with rows from place w on
abbrev pub put_at : {A : Type 0} → ℕ → List A → List A → List A
put_at w rows l = take w l ++ (rows ++ drop (w + length rows) l)

-- from the records of t to those of `after`, with k rows put from place w on
pub record Passed (t after : Tables) (w : ℕ) (pool put : List (List ℕ)) (k : ℕ) : Type 0 where
  pub settles : after ≡ settled_all t
  pub counts : k ≡ length (relocated_below (slots_of t) t)
  pub puts : put ≡ put_at w (map row_of (relocated_below (slots_of t) t)) pool
