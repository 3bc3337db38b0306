-- The corners of document 01's case at cell size 1. Numbers are bit patterns. Assumes nothing.
use Rattle.basics.specs.Words.{ℕ}
use Rattle.std.specs.Float.{binary32}
use Rattle.std.specs.Float.Ieee.{of_bits}
use Rattle.geometry.specs.declared.Position.{Position}

abbrev pub corner : ℕ → ℕ → Position
corner x y = record { x = of_bits binary32 x; y = of_bits binary32 y }

-- (0, 0)
abbrev pub origin : Position
origin = corner 0x00000000 0x00000000

-- (63, 63), and (64, 63)
abbrev pub square : Position
square = corner 0x427c0000 0x427c0000

abbrev pub wider : Position
wider = corner 0x42800000 0x427c0000
