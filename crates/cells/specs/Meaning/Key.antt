-- The key of a cell: one number for each cell, in the order of the rows and, in a row, of x. Assumes nothing.
use Rattle.std.specs.Prelude.{◌+◌, ◌-◌, ◌*◌}
use Rattle.basics.specs.Words.{ℕ, ℤ, pos, negsuc}
use Rattle.cells.specs.declared.Cell.{Cell}

-- a 32-bit number counted from the least
abbrev pub upward : ℤ → ℕ
upward (pos n) = n + 2147483648
upward (negsuc n) = 2147483647 - n

unfoldable pub key_of : Cell → ℕ
key_of c = upward c.y * 4294967296 + upward c.x
