-- The tables with everything done that was to be done, with no order of the cells in it; and what an order of visiting them is.
-- Assumes nothing.
-- Here: the laws.
use Rattle.basics.specs.Words.{ℕ, ◌≡◌, true, List}
use Rattle.point_tables.specs.Meaning.Tables.{Tables, cell_rows}
use Rattle.point_maintain.specs.Meaning.Maintain.{is_dirty}
use Rattle.point_maintain.proofs.laws.Settle.{among, Distinct}

-- no cell twice, and every dirty cell
pub record Order (ks : List ℕ) (t : Tables) : Type 0 where
  pub distinct : Distinct ks
  pub covers : (k : ℕ) → is_dirty (cell_rows t) k ≡ true → among k ks ≡ true
