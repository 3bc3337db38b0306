-- `cell` builds both grids anew. Assumes nothing.
-- Here: the laws.
use Rattle.basics.specs.Words.{ℕ, ◌≡◌, true, false}
use Rattle.blank.specs.Meaning.Blank.{size_ok}
use Rattle.point_tables.specs.Meaning.Tables as point
use Rattle.point_tables.specs.Meaning.Decide as point-decide
use Rattle.box_tables.specs.Meaning.Tables as box
use Rattle.box_tables.specs.Meaning.Decide as box-decide
use Rattle.point_insert.specs.Meaning.New as point-new
use Rattle.box_insert.specs.Meaning.New as box-new
use Rattle.trace_printing.specs.declared.Said.TheVariants.{Refused}
use Rattle.trace_answers.specs.Meaning.Cell.{both_built, build_both}

-- tables of the right lengths: a refused `cell` is refused by both grids for its size, and changes nothing
module _ (p : point.Tables) (b : box.Tables) (size : ℕ) (right : point-decide.sized p ≡ true) (right' : box-decide.sized b ≡ true) where
  pub cell-refused : size_ok size ≡ false → build_both p b size ≡ both_built (Refused 2) p b
  unfolding build_both point-new.new_of point-new.new_answer box-new.new_of box-new.new_answer
  cell-refused h = simp (right, right', h)
