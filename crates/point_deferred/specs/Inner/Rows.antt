-- The rows of a slot for which something becomes pending, by value. Assumes nothing.
use Rattle.std.specs.Prelude.{◌∷◌, Float}
use Rattle.basics.specs.Words.{ℕ, List, [], get_or, eqb, ℤ, pos}
use Rattle.std.specs.Float.{nan}
use Rattle.basics.specs.Meaning.Refusals.{pick}
use Rattle.geometry.specs.declared.Position.{Position}
use Rattle.cells.specs.declared.Cell.{Cell}

-- the cell that a row begins with
abbrev pub cell_in : List ℤ → Cell
cell_in z = record { x = get_or z 0 (pos 0); y = get_or z 1 (pos 0) }

abbrev pub with_pending : List Float → Position → List Float
with_pending q at = get_or q 0 nan ∷ get_or q 1 nan ∷ at.x ∷ at.y ∷ []

abbrev pub with_target : List ℤ → Cell → List ℤ
with_target z to = get_or z 0 (pos 0) ∷ get_or z 1 (pos 0) ∷ to.x ∷ to.y ∷ []

abbrev pub returned_in : List ℕ → ℕ → ℕ
returned_in n kind = pick (eqb kind 0) 0 (get_or n 2 0)
