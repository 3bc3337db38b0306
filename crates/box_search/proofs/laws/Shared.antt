-- The boxes that the walk of a query box meets: those whose range of cells shares a cell with its range. Assumes nothing.
use Rattle.basics.specs.Words.{ℕ, ◌<◌, ◌≡◌, Bool, true, ◌&&◌}
use lib.Signed.{le_z}
use Rattle.geometry.specs.declared.Aabb.{Aabb}
use Rattle.cells.specs.declared.Cell.{Cell}
use Rattle.cells.proofs.laws.Range.{in_range}
use Rattle.slots.specs.Meaning.Slot.{live, phase_at}
use Rattle.box_tables.specs.Meaning.Tables.{Tables, size_of, slots_of, aabb_on, low_cell, high_cell}

-- a cell that two boxes both cover
pub record Shared (size : ℕ) (p q : Aabb) : Type 0 where
  pub cell : Cell
  pub of_first : in_range (low_cell size p) (high_cell size p) cell ≡ true
  pub of_second : in_range (low_cell size q) (high_cell size q) cell ≡ true

-- slot s is occupied, and its box shares a cell with the query box
pub record Met (t : Tables) (q : Aabb) (s : ℕ) : Type 0 where
  pub inside : s < slots_of t
  pub occupied : phase_at t.nums s ≡ live
  pub shared : Shared (size_of t) q (aabb_on t s)

-- the same by numbers: on both axes neither range ends before the other begins
abbrev pub ranged : ℕ → Aabb → Aabb → Bool
ranged size p q =
    let a = low_cell size p in
    let b = high_cell size p in
    let c = low_cell size q in
    let d = high_cell size q in
    (le_z a.x d.x && le_z c.x b.x) && (le_z a.y d.y && le_z c.y b.y)
