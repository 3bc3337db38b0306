-- Columns with the same records: what the unused places of a row hold does not matter. Assumes nothing.
-- Here: what only inner contracts cite.
use Rattle.std.specs.Prelude.{◌≡◌}
use Rattle.basics.specs.Words.{ℕ, length}
use Rattle.point_tables.specs.Meaning.Tables.{Tables, tables, slots_of, record_on}

-- the tables t with the columns of u
abbrev pub with_columns : Tables → Tables → Tables
with_columns t u = tables u.nums u.reals u.ints t.map t.pool t.spots t.cells

-- columns of the same lengths with the same record in every slot, beside the same other tables
pub record Alike (t u : Tables) : Type 0 where
  pub of_nums : slots_of t ≡ slots_of u
  pub of_reals : length t.reals ≡ length u.reals
  pub of_ints : length t.ints ≡ length u.ints
  pub each : (s : ℕ) → record_on t s ≡ record_on u s
  pub rest : with_columns t u ≡ u
