-- `cell` builds both grids anew. Assumes nothing.
use Rattle.std.specs.Prelude.{◌≡◌}
use Rattle.basics.specs.Words.{ℕ}
use Rattle.point_tables.specs.Meaning.Tables as point
use Rattle.box_tables.specs.Meaning.Tables as box
use Rattle.point_insert.specs.Meaning.New as point-new
use Rattle.box_insert.specs.Meaning.New as box-new
use Rattle.trace_printing.specs.declared.Said.{Said}
use Rattle.trace_telling.specs.Meaning.Tells.{tells, done_or}

-- what is said, and both grids after it
pub record Built : Type 0 where
  pub said : Said
  pub points : point.Tables
  pub boxes : box.Tables

abbrev pub both_built : Said → point.Tables → box.Tables → Built
both_built s p b = record { said = s; points = p; boxes = b }

-- the first refusal, if there is one
unfoldable pub build_both : point.Tables → box.Tables → ℕ → Built
build_both p b size =
    let o = point-new.new_of p size in
    let q = box-new.new_of b size in
    both_built (tells o.result (done_or q.result)) o.after q.after

-- the promise of `cell`: p and b are the tables of both grids before it, p' and b' those after it
abbrev pub Builds : ℕ → Said → point.Tables → box.Tables → point.Tables → box.Tables → Type 0
Builds size said p b p' b' = both_built said p' b' ≡ build_both p b size
