-- A box in the lists of the cells that it covers: a range of cells, from the cell of its lower left to that of its upper right. Its entry in
-- each list is the same item. Assumes nothing.
use Rattle.std.specs.Prelude.{◌≡◌, ◌∷◌}
use Rattle.basics.specs.Words.{ℕ, List, [], map}
use Rattle.cells.specs.declared.Cell.{Cell}
use Rattle.cells.specs.Meaning.Key.{key_of}
use Rattle.cells.specs.Meaning.Range.{range_cells}
use Rattle.storage.specs.Meaning.Keyed.{filter, on_list, append_all, take_out}
use Rattle.storage.specs.Meaning.Entries.{row_key, is_item}

-- the row of an item in the list of a cell
abbrev pub row_in : ℕ → Cell → List ℕ
row_in item c = key_of c ∷ item ∷ []

-- ---- appended to the list of every cell of a range
unfoldable pub entered_all : Cell → Cell → ℕ → List (List ℕ) → List (List ℕ)
entered_all a b item rows = append_all row_key rows (map (row_in item) (range_cells a b))

-- ---- taken out of the list of every cell of a range: in each the last entry moves into the gap
abbrev pub left_from : List Cell → ℕ → List (List ℕ) → List (List ℕ)
left_from [] item rows = rows
left_from (c ∷ cs) item rows = left_from cs item (on_list row_key (key_of c) (take_out (is_item item)) rows)

unfoldable pub left_all : Cell → Cell → ℕ → List (List ℕ) → List (List ℕ)
left_all a b item rows = left_from (range_cells a b) item rows

-- ---- the item stands once in the list of each cell of the range, and in no other list: the pool is in the order of the keys, which is
-- the order of the range
abbrev pub Stands : Cell → Cell → ℕ → List (List ℕ) → Type 0
Stands a b item rows = map row_key (filter (is_item item) rows) ≡ map key_of (range_cells a b)
