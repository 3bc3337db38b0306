-- What `set_position` makes pending agrees with the cell rule. Assumes nothing.
use Rattle.basics.specs.Words.{ℕ, ◌≡◌, refl, sym, ◌∙◌, subst, List, inl, inr, ℤ}
use lib.Ieee.{Float}
use Rattle.basics.specs.Meaning.Says.{Decided, said}
use Rattle.basics.specs.Meaning.Refusals.{pick}
use Rattle.geometry.specs.declared.Position.{Position}
use Rattle.cells.specs.declared.Cell.{Cell}
use Rattle.cells.specs.Meaning.CellRule.{cell_at}
use Rattle.point_records.specs.declared.State.TheVariants.{NewPos, Relocate}
use Rattle.point_records.specs.Meaning.Columns.{pending_in, record_of}
use Rattle.point_records.specs.Meaning.Word.{tag_in}
use Rattle.point_records.specs.Meaning.Occupied.{InDomain, Agrees, Occupied}
use Rattle.point_records.specs.Inner.Occupied.{InCell}
use Rattle.point_records.specs.Inner.Decide.{d_cell}
use Rattle.point_records.specs.Meaning.States.{aimed}

pick-agrees : (size : ℕ) (c : Cell) (p : Position) → InDomain p → (x : Decided (cell_at size p ≡ c)) → Agrees size c (pick (said x) (NewPos p) (Relocate p (cell_at size p)))
pick-agrees size c p d (inl e) = (d, e)
pick-agrees size c p d (inr n) = (d, refl, n)

pub aimed-agrees : (size : ℕ) (c : Cell) (p : Position) → InDomain p → Agrees size c (aimed size c p)
unfolding aimed
aimed-agrees size c p d = pick-agrees size c p d (d_cell (cell_at size p) c)

-- ---- a record holds by its parts: the object is of cell c, its position is of the cell, and what is pending agrees
module _ (size : ℕ) (c : Cell) (n : List ℕ) (q : List Float) (z : List ℤ) where
  pub to_occupied : InCell size c q z → Agrees size c (pending_in (tag_in n) q z) → Occupied size (record_of n q z)
  to_occupied h a = record { within_domain = h.within_domain; in_cell = h.in_cell ∙ sym h.is_cell; agrees = subst (λ (d : Cell). Agrees size d (pending_in (tag_in n) q z)) (sym h.is_cell) a }

  pub of_occupied : (record_of n q z).cell ≡ c → Occupied size (record_of n q z) → InCell size c q z × Agrees size c (pending_in (tag_in n) q z)
  of_occupied e o = (record { is_cell = e; within_domain = o.within_domain; in_cell = o.in_cell ∙ e }, subst (λ (d : Cell). Agrees size d (pending_in (tag_in n) q z)) e o.agrees)
