-- What an occupied record is to be: its numbers are in the domain, its cell is that of its position, and what is pending agrees with the
-- cell rule. Assumes nothing.
use Rattle.std.specs.Prelude.{◌≡◌}
use Rattle.basics.specs.Words.{ℕ, T}
use Rattle.geometry.specs.Meaning.Domain.{position_in_domain}
use Rattle.geometry.specs.declared.Position.{Position}
use Rattle.cells.specs.declared.Cell.{Cell}
use Rattle.cells.specs.Meaning.CellRule.{cell_at}
use Rattle.point_records.specs.declared.State.{State}
use Rattle.point_records.specs.declared.State.TheVariants.{Unchanged, NewPos, Relocate, Removed}
use Rattle.point_records.specs.declared.Record.{Record}

abbrev pub InDomain : Position → Type 0
InDomain p = T (position_in_domain p)

-- a new position stays in the recorded cell c, a relocation names another
abbrev pub Agrees : ℕ → Cell → State → Type 0
Agrees size c Unchanged = Unit {0}
Agrees size c (NewPos p) = InDomain p × (cell_at size p ≡ c)
Agrees size c (Relocate p d) = InDomain p × (cell_at size p ≡ d) × (d ≡ c → ⊥)
Agrees size c Removed = Unit {0}

pub record Occupied (size : ℕ) (r : Record) : Type 0 where
  pub within_domain : InDomain r.position
  pub in_cell : cell_at size r.position ≡ r.cell
  pub agrees : Agrees size r.cell r.state
