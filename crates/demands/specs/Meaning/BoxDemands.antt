-- The user's demands on the box grid: demand 1, and that tables built and changed only by its calls always hold a grid. Assumes nothing.
use Rattle.std.specs.Prelude.{◌∷◌}
use Rattle.basics.specs.Words.{List, []}
use Rattle.box_tables.specs.Meaning.Tables.{Tables}
use Rattle.demands.specs.Meaning.BoxCalls.{BoxCall, leaves}

unfoldable pub after_calls : Tables → List BoxCall → Tables
unfolding leaves
after_calls t [] = t
after_calls t (c ∷ cs) = after_calls (leaves t c).after cs
