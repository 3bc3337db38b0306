-- The cell of a coordinate and of a position. Assumes nothing.
use Rattle.std.specs.Prelude.{◌-ℤ◌, Float}
use Rattle.basics.specs.Words.{ℕ, false, cond, ℤ, pos}
use Rattle.std.specs.Int.Signed.{quot_z}
use Rattle.std.specs.Float.{fin}
use Rattle.std.specs.Float.Ieee.{lt, to_signed}
use Rattle.geometry.specs.declared.Position.{Position}
use Rattle.cells.specs.declared.Cell.{Cell}

-- the whole number of a coordinate: Rust's `as i32`, which drops the fraction toward zero
abbrev pub whole_of : Float → ℤ
whole_of x = to_signed 31 x

-- divided by the cell size with the quotient toward zero, less one where the coordinate is below zero
unfoldable pub cell_of : ℤ → Float → ℤ
unfolding lt to_signed
cell_of size x = cond (lt x (fin false 0 (pos 0))) (quot_z (whole_of x) size -ℤ pos 1) (quot_z (whole_of x) size)

abbrev pub cell_at : ℕ → Position → Cell
cell_at size p = record { x = cell_of (pos size) p.x; y = cell_of (pos size) p.y }
