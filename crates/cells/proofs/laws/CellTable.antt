-- The nine rows of the table of cells: at each size, the coordinate with these bits has this cell. Assumes nothing.
use Rattle.basics.specs.Words.{ℕ, Bool, ◌&&◌, List, [], ◌∷◌, ℤ, pos, negsuc}
use lib.Signed.{le_z}
use lib.Ieee.{binary32, of_bits}
use Rattle.cells.specs.Meaning.CellRule.{cell_of}

pub record Row : Type 0 where
  pub size : ℕ
  pub bits : ℕ
  pub cell : ℤ

abbrev pub row : ℕ → ℕ → ℤ → Row
row s b c = record { size = s; bits = b; cell = c }

unfoldable pub right : Row → Bool
unfolding of_bits cell_of
right r = let z = cell_of (pos r.size) (of_bits binary32 r.bits) in le_z z r.cell && le_z r.cell z

-- -10.0, -9.5, -0.5, -0.0, 9.5, 10.0, -1.0, 1279.0, 1048576.0
unfoldable pub table : List Row
table =
    row 10 0xc1200000 (negsuc 1)
    ∷ row 10 0xc1180000 (negsuc 0)
    ∷ row 10 0xbf000000 (negsuc 0)
    ∷ row 10 0x80000000 (pos 0)
    ∷ row 10 0x41180000 (pos 0)
    ∷ row 10 0x41200000 (pos 1)
    ∷ row 1 0xbf800000 (negsuc 1)
    ∷ row 16 0x449fe000 (pos 79)
    ∷ row 1 0x49800000 (pos 1048576)
    ∷ []
