-- A cell by its two numbers: how large they are, and that equal numbers make equal cells. Assumes nothing.
-- Here: what only inner contracts cite.
use Rattle.std.specs.Prelude.{◌≤◌}
use Rattle.std.specs.Int.Signed.{mag}
use Rattle.cells.specs.declared.Cell.{Cell}

-- the numbers are at most 2 ^ 22: what ranges are counted of
pub record Near (c : Cell) : Type 0 where
  pub x : mag c.x ≤ 4194304
  pub y : mag c.y ≤ 4194304
