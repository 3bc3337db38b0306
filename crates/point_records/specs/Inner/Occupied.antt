-- What an occupied record is to be: its numbers are in the domain, its cell is that of its position, and what is pending agrees with the
-- cell rule. Assumes nothing.
-- Here: what only inner contracts cite.
use Rattle.std.specs.Prelude.{◌≡◌, Float}
use Rattle.basics.specs.Words.{ℕ, List, [], ℤ}
use Rattle.cells.specs.declared.Cell.{Cell}
use Rattle.cells.specs.Meaning.CellRule.{cell_at}
use Rattle.point_records.specs.Meaning.Columns.{record_of}
use Rattle.point_records.specs.Meaning.Occupied.{InDomain}

-- the rows of a slot are those of an object of cell c, at a position of the cell: the numbers do not matter to that
pub record InCell (size : ℕ) (c : Cell) (q : List Float) (z : List ℤ) : Type 0 where
  pub is_cell : (record_of [] q z).cell ≡ c
  pub within_domain : InDomain (record_of [] q z).position
  pub in_cell : cell_at size (record_of [] q z).position ≡ c
