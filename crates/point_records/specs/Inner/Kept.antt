-- Spans that are kept: at place i that of the column, or line, whose number from the least is there. Assumes nothing.
use Rattle.std.specs.Prelude.{◌<◌, ◌≡◌, Float}
use Rattle.basics.specs.Words.{ℕ, List, [], length, get_or}
use Rattle.std.specs.Float.{nan}
use Rattle.cells.specs.Inner.Key.{cell_of_key}
use Rattle.cells.specs.Inner.Span.{Spans}

pub record Kept (size : ℕ) (known : List ℕ) (ends : List (List Float)) : Type 0 where
  pub of_known : length known ≡ 128
  pub of_ends : length ends ≡ 128
  pub each : (i : ℕ) → i < 128 → Spans size (cell_of_key (get_or known i 0)).x (get_or (get_or ends i []) 0 nan) (get_or (get_or ends i []) 1 nan)
