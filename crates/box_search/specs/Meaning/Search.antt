-- The boxes of a range of cells, each once, at its first place in the walk, and those of them for which `intersects` holds, the query box
-- first. Assumes nothing.
use Rattle.basics.specs.Words.{ℕ, List, map}
use Rattle.std.specs.Prelude.{Float}
use Rattle.geometry.specs.declared.Aabb.{Aabb}
use Rattle.geometry.specs.Meaning.Intersects.{intersects}
use Rattle.storage.specs.Meaning.Keyed.{filter}
use Rattle.storage.specs.Meaning.Entries.{row_key}
use Rattle.storage.specs.Meaning.Walk.{walked}
use Rattle.box_tables.specs.Meaning.Tables.{Tables, size_of, entries_in, aabb_at, aabb_on, low_cell, high_cell, slot_of, corners_of}
use Rattle.box_search.specs.Meaning.Firsts.{firsts}

-- ---- what is found
-- the entries of the cells of the query box, in range order and then in list order
unfoldable pub range_entries : Tables → Aabb → List (List ℕ)
range_entries t q = walked row_key (low_cell (size_of t) q) (high_cell (size_of t) q) (entries_in t)

-- their slots, each once, at its first place in the walk
unfoldable pub broad : Tables → Aabb → List ℕ
unfolding range_entries
broad t q = firsts (map slot_of (range_entries t q))

-- those whose box the query box intersects, in binary32
unfoldable pub narrow : Tables → Aabb → List ℕ
unfolding broad
narrow t q = filter (λ s. intersects q (aabb_on t s)) (broad t q)

-- ---- a finding in the outputs: a row (slot, version), a row of the four numbers of the box, and the data
abbrev pub box_row : List (List Float) → ℕ → List Float
box_row reals s = corners_of (aabb_at reals s)
