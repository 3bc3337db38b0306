-- The records laid into columns, and gathered out of them. Both are total: what has no place on the other side stays. Assumes nothing.
-- Here: what only inner contracts cite.
use Rattle.basics.specs.Words.{ℕ, List, length, ltb, ℤ, pos}
use Rattle.std.specs.Prelude.{Float}
use Rattle.std.specs.Float.{nan}
use Rattle.basics.specs.Meaning.Refusals.{pick}
use Rattle.point_records.specs.declared.State.TheVariants.{Unchanged}
use Rattle.point_records.specs.declared.Tracker.TheVariants.{T0}
use Rattle.point_records.specs.declared.Record.{Record}
use Rattle.point_records.specs.Meaning.Columns.{record_at}

-- what stands past the end, where nothing stands
abbrev pub no_record : Record
no_record = record { version = 0; phase = 0; obj = 0; position = record { x = nan; y = nan }; cell = record { x = pos 0; y = pos 0 }; state = Unchanged; tracker = T0 }

-- the record of row i, or r where a column has no such row
abbrev pub row_or : List (List ℕ) → List (List Float) → List (List ℤ) → ℕ → Record → Record
row_or ns qs zs i r = pick (ltb i (length ns)) (pick (ltb i (length qs)) (pick (ltb i (length zs)) (record_at ns qs zs i) r) r) r
