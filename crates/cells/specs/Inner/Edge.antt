-- The edges of the cells, and where a coordinate stands by comparison with them. Assumes nothing.
use Rattle.std.specs.Prelude.{◌*◌, ◌&&◌, Float}
use Rattle.basics.specs.Words.{ℕ, zero, suc, Bool, false, ℤ, pos, negsuc, neg_ℤ}
use Rattle.std.specs.Float.{fin, binary32}
use Rattle.std.specs.Float.Ieee.{of_int, lt, le}

-- edge c of a cell size: c times the size, as a binary32
abbrev pub times : ℕ → ℤ → ℤ
times s (pos k) = pos (k * s)
times s (negsuc k) = neg_ℤ (pos (suc k * s))

abbrev pub edge : ℕ → ℤ → Float
edge s c = of_int binary32 (times s c)

-- from its lower edge on and below its upper one; below zero above the lower and up to the upper one; and cell -1 ends before zero
abbrev pub stands_in : ℕ → Float → ℤ → Bool
stands_in s x (pos k) = le (edge s (pos k)) x && lt x (edge s (pos (suc k)))
stands_in s x (negsuc zero) = lt (edge s (negsuc 0)) x && lt x (fin false 0 (pos 0))
stands_in s x (negsuc (suc k)) = lt (edge s (negsuc (suc k))) x && le x (edge s (negsuc k))
