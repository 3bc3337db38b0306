-- A cell by its two numbers: how large they are, and that equal numbers make equal cells. Assumes nothing.
-- Here: the laws.
use Rattle.basics.specs.Words.{◌<◌, ◌≡◌, arith}
use lib.Signed.{mag}
use Rattle.cells.specs.declared.Cell.{Cell}
use Rattle.cells.specs.Inner.Numbers.{Near}

pub cell_ext : {a b : Cell} → a.x ≡ b.x → a.y ≡ b.y → a ≡ b
cell_ext ex ey = λ z. record { x = ex z; y = ey z }

-- the numbers fit 32 bits
pub record Fits (c : Cell) : Type 0 where
  pub x : mag c.x < 2147483648
  pub y : mag c.y < 2147483648

pub near_fits : (c : Cell) → Near c → Fits c
near_fits c n = record { x = omega (arith, n.x); y = omega (arith, n.y) }
