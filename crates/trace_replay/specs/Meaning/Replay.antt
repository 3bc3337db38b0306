-- A record replayed: its request performed on the two grids, and its answer put behind what is written. A trace is its records, one after the
-- other. Assumes nothing.
use Rattle.std.specs.Prelude.{◌≡◌, Float}
use Rattle.basics.specs.Words.{ℕ, false, List, replicate, pos}
use Rattle.std.specs.Float.{fin}
use Rattle.trace_decimals.specs.Meaning.Written.{Buffer, put_text}
use Rattle.point_tables.specs.Meaning.Tables as point
use Rattle.box_tables.specs.Meaning.Tables as box
use Rattle.trace_printing.specs.Meaning.Said.{record_text}
use Rattle.trace_lines.specs.Meaning.Requests.{request_of}
use Rattle.trace_answers.specs.Meaning.State.{State, state, Answered}
use Rattle.trace_answers.specs.Meaning.Answer.{answer_of}

pub record Grids : Type 0 where
  pub points : point.Tables
  pub boxes : box.Tables

abbrev pub grids : point.Tables → box.Tables → Grids
grids p b = record { points = p; boxes = b }

abbrev pub naught : Float
naught = fin false 0 (pos 0)

-- the outputs of the queries before a request: 256 findings of points, with data and tracker, and 64 of boxes
abbrev pub fresh_state : Grids → State
fresh_state g =
    state g.points g.boxes (replicate 256 (replicate 2 0)) (replicate 256 (replicate 2 naught)) (replicate 64 (replicate 4 naught)) (replicate 256 (replicate 2 0))

-- what the grids answer to the bytes of a record
unfoldable pub answer_to : Grids → List ℕ → Answered
answer_to g bytes = answer_of (fresh_state g) (request_of bytes)

-- the text of the answer, and the grids after it
abbrev pub answer_text : Answered → List ℕ
answer_text a = record_text a.tells a.after.handles a.after.places a.after.corners a.after.objs

abbrev pub grids_of : Answered → Grids
grids_of a = grids a.after.points a.after.boxes

-- ---- one record, where its answer is put behind what is written
pub record Replayed : Type 0 where
  pub after : Grids
  pub out : Buffer

abbrev pub replayed : Grids → Buffer → Replayed
replayed g w = record { after = g; out = w }

abbrev pub replay_of : Grids → List ℕ → Buffer → Replayed
replay_of g bytes w = replayed (grids_of (answer_to g bytes)) (put_text w (answer_text (answer_to g bytes)))

-- the promise of a record's answer: w is what is written before it and g the grids, v and g' are these after it
abbrev pub Replays : List ℕ → Buffer → Buffer → Grids → Grids → Type 0
Replays bytes w v g g' = replayed g' v ≡ replay_of g bytes w
