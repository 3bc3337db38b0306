-- A record replayed: its request performed on the two grids, and its answer put behind what is written. A trace is its records, one after the
-- other. Assumes nothing.
-- Here: what only inner contracts cite.
use Rattle.std.specs.Prelude.{◌∷◌, ◌++◌}
use Rattle.basics.specs.Words.{ℕ, List, []}
use Rattle.trace_replay.specs.Meaning.Replay.{Grids, answer_to, answer_text, grids_of}

-- ---- all of them: what the program writes
abbrev pub trace_of : Grids → List (List ℕ) → List ℕ
trace_of g [] = []
trace_of g (r ∷ rs) = answer_text (answer_to g r) ++ trace_of (grids_of (answer_to g r)) rs
