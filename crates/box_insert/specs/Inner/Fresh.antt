-- What the steps of an insert are asked for and give. Assumes nothing.
use Rattle.std.specs.Prelude.{◌+◌, ◌<◌, ◌≤◌, ◌≡◌}
use Rattle.basics.specs.Words.{ℕ, List, length, get_or, T}
use Rattle.basics.specs.Meaning.Limits.{most_boxes, most_entries, most_cells}
use Rattle.geometry.specs.declared.Aabb.{Aabb}
use Rattle.geometry.specs.Meaning.Domain.{aabb_in_domain}
use Rattle.cells.specs.Meaning.Size.{SizeInDomain}
use Rattle.slots.specs.Inner.Map.{NonePast}
use Rattle.slots.specs.Meaning.Map.{head, words_for}
use Rattle.slots.specs.Meaning.Slot.{free, phase_at}
use Rattle.box_tables.specs.Meaning.Tables.{Tables, size_of, used_of, slots_of, covers}
use Rattle.box_tables.specs.Meaning.Holds.{Holds}

-- what the choice of a slot reads of tables that hold a grid
pub record Ready (nums : List (List ℕ)) (map : List ℕ) : Type 0 where
  pub most : length nums ≤ most_boxes
  pub of_map : length map ≡ head + words_for (length nums)
  pub none-past : NonePast map (length nums)
  pub size : SizeInDomain (get_or map 0 0)
  pub used : get_or map 1 0 ≤ most_entries

-- tables that hold a grid, a slot that is free, and a box that there is room for
pub record Fresh (t : Tables) (s : ℕ) (b : Aabb) : Type 0 where
  pub holds : Holds t
  pub inside : s < slots_of t
  pub is_free : phase_at t.nums s ≡ free
  pub within_domain : T (aabb_in_domain b)
  pub few : covers (size_of t) b ≤ most_cells
  pub room : used_of t + covers (size_of t) b ≤ length t.pool
