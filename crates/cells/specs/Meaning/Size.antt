-- The cell sizes of the domain. Assumes nothing.
use Rattle.std.specs.Prelude.{◌≤◌}
use Rattle.basics.specs.Words.{ℕ}

-- the one place that says how large a cell may be: 2 ^ 20
abbrev pub size_most : ℕ
size_most = 1048576

abbrev pub SizeInDomain : ℕ → Type 0
SizeInDomain size = (1 ≤ size) × (size ≤ size_most)
