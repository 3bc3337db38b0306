-- An item taken out of every list that has it. Assumes nothing.
use Rattle.std.specs.Prelude.{◌<◌, ◌≤◌, ◌≡◌, ◌∷◌, ◌++◌}
use Rattle.basics.specs.Words.{ℕ, false, List, [], map, length, get_or, take, slice}
use Rattle.cells.specs.declared.Cell.{Cell}
use Rattle.cells.specs.Inner.Numbers.{Near}
use Rattle.cells.specs.Inner.Rising.{Rising}
use Rattle.storage.specs.Inner.Keyed.{Sorted}
use Rattle.storage.specs.Meaning.Keyed.{filter, on_list, take_out}
use Rattle.storage.specs.Meaning.Entries.{row_key, is_item}
use Rattle.box_cover.specs.Meaning.Coverage.{Stands}

-- out of the lists of some keys
abbrev pub taken_from : List ℕ → ℕ → List (List ℕ) → List (List ℕ)
taken_from [] item rows = rows
taken_from (k ∷ ks) item rows = taken_from ks item (on_list row_key k (take_out (is_item item)) rows)

-- the keys of the lists that have it
abbrev pub keys_with : ℕ → List (List ℕ) → List ℕ
keys_with item rows = map row_key (filter (is_item item) rows)

abbrev pub taken_from_all : ℕ → List (List ℕ) → List (List ℕ)
taken_from_all item rows = taken_from (keys_with item rows) item rows

-- it can leave the lists of the cells from a to b, at the first rows of the pool: it stands in them and in no other
pub record Leaving (a b : Cell) (item used : ℕ) (pool : List (List ℕ)) : Type 0 where
  pub fits : used ≤ length pool
  pub sorted : Sorted row_key (take used pool)
  pub near-low : Near a
  pub near-high : Near b
  pub stands : Stands a b item (take used pool)

-- rows that can be swept: they are in order, and no list has it twice
pub record Sweepable (item from to : ℕ) (pool : List (List ℕ)) : Type 0 where
  pub upward : from ≤ to
  pub fits : to ≤ length pool
  pub sorted : Sorted row_key (slice from to pool)
  pub rising : Rising (keys_with item (slice from to pool))

-- the rows up to a place, without it in those from another on
abbrev pub swept : ℕ → ℕ → ℕ → List (List ℕ) → List (List ℕ)
swept item from to pool = take from pool ++ taken_from_all item (slice from to pool)

-- no row from a place up to another has it
abbrev pub Without : ℕ → List (List ℕ) → ℕ → ℕ → Type 0
Without item pool from to = (m : ℕ) → from ≤ m → m < to → is_item item (get_or pool m []) ≡ false
