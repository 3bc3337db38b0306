-- The cell rule by comparison with edges that are exactly binary32 numbers. Assumes nothing.
-- Here: what only inner contracts cite.
use Rattle.std.specs.Prelude.{◌^◌}
use Rattle.basics.specs.Words.{ℕ}
use Rattle.std.specs.Float.{binary32}
use Rattle.std.specs.Float.Ieee.{low}

abbrev pub unit : ℕ
unit = 2 ^ low binary32
