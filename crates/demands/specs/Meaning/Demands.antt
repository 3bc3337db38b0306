-- The user's demands on the point grid. Demand 2 is each call's own promise, read beside 01 and the Rust: docs/PROMISES.md. Assumes nothing.
use Rattle.std.specs.Prelude.{◌∷◌}
use Rattle.basics.specs.Words.{List, []}
use Rattle.point_tables.specs.Meaning.Tables.{Tables}
use Rattle.demands.specs.Meaning.PointCalls.{PointCall}
use Rattle.demands.specs.Meaning.PointCalls.{leaves}

unfoldable pub after_calls : Tables → List PointCall → Tables
unfolding leaves
after_calls t [] = t
after_calls t (c ∷ cs) = after_calls (leaves t c).after cs
