-- The two grids of the trace and the outputs of their queries; an answer is what is said and these after it. Assumes nothing.
use Rattle.basics.specs.Words.{ℕ, List}
use Rattle.std.specs.Prelude.{Float}
use Rattle.point_tables.specs.Meaning.Tables as point
use Rattle.box_tables.specs.Meaning.Tables as box
use Rattle.trace_printing.specs.declared.Said.{Said}

pub record State : Type 0 where
  pub points : point.Tables
  pub boxes : box.Tables
  pub handles : List (List ℕ)
  pub places : List (List Float)
  pub corners : List (List Float)
  pub objs : List (List ℕ)

abbrev pub state : point.Tables → box.Tables → List (List ℕ) → List (List Float) → List (List Float) → List (List ℕ) → State
state p b h l c o = record { points = p; boxes = b; handles = h; places = l; corners = c; objs = o }

pub record Answered : Type 0 where
  pub tells : Said
  pub after : State

abbrev pub answered : Said → State → Answered
answered s g = record { tells = s; after = g }
