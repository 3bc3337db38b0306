-- The tables of a box grid of n slots and a pool of some entries, as lists, and their lengths. Assumes nothing.
use Rattle.std.specs.Prelude.{◌+◌, ◌*◌, ◌/◌, ◌≤◌, ◌≡◌, ◌∷◌, Float}
use Rattle.basics.specs.Words.{ℕ, Bool, List, [], length, get_or, set, take, eqb}
use Rattle.std.specs.Float.{nan}
use Rattle.basics.specs.Meaning.Limits.{most_boxes, most_entries}
use Rattle.basics.specs.Meaning.Refusals.{pick}
use Rattle.geometry.specs.declared.Aabb.{Aabb}
use Rattle.cells.specs.declared.Cell.{Cell}
use Rattle.cells.specs.Meaning.CellRule.{cell_at}
use Rattle.cells.specs.Meaning.Range.{cells_in}
use Rattle.slots.specs.Meaning.Map.{head, words_for}
use Rattle.storage.specs.Meaning.Entries.{row_item}

-- nums: version, phase, obj, and a number that nothing reads; reals: lower left x, y, upper right x, y: a row for each slot.
-- map: cell size, entries in use, a word that nothing reads, then the usable bits. pool: cell key, item: a row for each list entry.
pub record Tables : Type 0 where
  pub nums : List (List ℕ)
  pub reals : List (List Float)
  pub map : List ℕ
  pub pool : List (List ℕ)

abbrev pub tables : List (List ℕ) → List (List Float) → List ℕ → List (List ℕ) → Tables
tables a b c d = record { nums = a; reals = b; map = c; pool = d }

-- ---- what the head words of the map say
abbrev pub size_of : Tables → ℕ
size_of t = get_or t.map 0 0

abbrev pub used_of : Tables → ℕ
used_of t = get_or t.map 1 0

-- the map with another number of entries in use
abbrev pub counting : List ℕ → ℕ → List ℕ
counting m used = set m 1 used

-- ---- the number of slots, the entries in use, and the box and the data of a slot
abbrev pub slots_of : Tables → ℕ
slots_of t = length t.nums

abbrev pub entries_in : Tables → List (List ℕ)
entries_in t = take (used_of t) t.pool

-- the row of a box, and the box of a row: lower left, then upper right
abbrev pub corners_of : Aabb → List Float
corners_of b = b.ll.x ∷ b.ll.y ∷ b.ur.x ∷ b.ur.y ∷ []

abbrev pub aabb_at : List (List Float) → ℕ → Aabb
aabb_at reals s =
    record {
      ll = record { x = get_or (get_or reals s []) 0 nan; y = get_or (get_or reals s []) 1 nan };
      ur = record { x = get_or (get_or reals s []) 2 nan; y = get_or (get_or reals s []) 3 nan };
    }

abbrev pub aabb_on : Tables → ℕ → Aabb
aabb_on t s = aabb_at t.reals s

abbrev pub obj_on : Tables → ℕ → ℕ
obj_on t s = get_or (get_or t.nums s []) 2 0

-- ---- the range of cells that a box covers, and how many they are
abbrev pub low_cell : ℕ → Aabb → Cell
low_cell size b = cell_at size b.ll

abbrev pub high_cell : ℕ → Aabb → Cell
high_cell size b = cell_at size b.ur

abbrev pub covers : ℕ → Aabb → ℕ
covers size b = cells_in (low_cell size b) (high_cell size b)

-- ---- an item of the pool: the slot of a box, with a mark when it covers one cell only
abbrev pub item_of : ℕ → Bool → ℕ
item_of s single = s * 2 + pick single 1 0

abbrev pub item_for : ℕ → ℕ → Aabb → ℕ
item_for size s b = item_of s (eqb (covers size b) 1)

abbrev pub item_on : Tables → ℕ → ℕ
item_on t s = item_for (size_of t) s (aabb_on t s)

abbrev pub slot_of : List ℕ → ℕ
slot_of row = row_item row / 2

-- ---- the right lengths follow from n, from 1 to 256, and from the pool, from 1 to 8,192
pub record Lengths (n reals map pool : ℕ) : Type 0 where
  pub some : 1 ≤ n
  pub most : n ≤ most_boxes
  pub of_reals : reals ≡ n
  pub of_map : map ≡ head + words_for n
  pub pool-some : 1 ≤ pool
  pub pool-most : pool ≤ most_entries

abbrev pub Sized : Tables → Type 0
Sized t = Lengths (slots_of t) (length t.reals) (length t.map) (length t.pool)
