-- Whether an occupied record holds can be decided. Assumes nothing.
-- Here: the laws.
use Rattle.basics.specs.Words.{ℕ}
use Rattle.basics.specs.Meaning.Says.{Decided}
use Rattle.basics.proofs.laws.Says.{d_via, d_and, d_imp, d_none, d_unit, d_t}
use Rattle.geometry.specs.Meaning.Domain.{position_in_domain}
use Rattle.cells.specs.declared.Cell.{Cell}
use Rattle.cells.specs.Meaning.CellRule.{cell_at}
use Rattle.point_records.specs.declared.State.{State}
use Rattle.point_records.specs.declared.State.TheVariants.{Unchanged, NewPos, Relocate, Removed}
use Rattle.point_records.specs.declared.Record.{Record}
use Rattle.point_records.specs.Meaning.Occupied.{Agrees, Occupied}
use Rattle.point_records.specs.Inner.Decide.{d_cell}

d_three : {P Q R : Type 0} → Decided P → Decided Q → Decided R → Decided (P × Q × R)
d_three p q r = d_via (λ x. (x.0, x.1.0, x.1.1)) (λ x. (x.0, (x.1, x.2))) (d_and p (d_and q r))

d_agrees : (size : ℕ) (c : Cell) (s : State) → Decided (Agrees size c s)
d_agrees size c Unchanged = d_unit
d_agrees size c (NewPos p) = d_and (d_t (position_in_domain p)) (d_cell (cell_at size p) c)
d_agrees size c (Relocate p d) = d_three (d_t (position_in_domain p)) (d_cell (cell_at size p) d) (d_imp (d_cell d c) d_none)
d_agrees size c Removed = d_unit

pub d_occupied : (size : ℕ) (r : Record) → Decided (Occupied size r)
d_occupied size r =
    d_via (λ x. record { within_domain = x.0; in_cell = x.1; agrees = x.2 }) (λ h. (h.within_domain, h.in_cell, h.agrees))
    (d_three (d_t (position_in_domain r.position)) (d_cell (cell_at size r.position) r.cell) (d_agrees size r.cell r.state))
