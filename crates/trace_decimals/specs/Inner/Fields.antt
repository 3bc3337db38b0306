-- What the bytes of a field read as, digit by digit. Assumes nothing.
-- Here: what only inner contracts cite.
use Rattle.std.specs.Prelude.{◌≤◌, Option, IfSome}
use Rattle.basics.specs.Words.{ℕ}
use Rattle.trace_decimals.specs.Meaning.Fields.{farthest}

-- what was read is at most that
abbrev pub Short : Option ℕ → Type 0
Short n = IfSome n (λ v. v ≤ farthest)
