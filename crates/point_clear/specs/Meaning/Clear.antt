-- `clear` writes recorded position, data and tracker, ascending by slot, then empties the grid: versions rise as with any emptying. Assumes nothing.
use Rattle.std.specs.Prelude.{◌∷◌, Float}
use Rattle.basics.specs.Words.{ℕ, min, List, [], map, length, eqb, leb}
use Rattle.basics.specs.Meaning.Refusals.{Refusal, unless, pick, by_tests}
use Rattle.storage.specs.Meaning.Keyed.{written}
use Rattle.slot_walks.specs.Meaning.Live.{live_from}
use Rattle.slot_walks.specs.Meaning.Cleared.{cleared_rows, cleared_map}
use Rattle.point_records.specs.Meaning.Word.{tracker_at}
use Rattle.point_tables.specs.Meaning.Tables.{Tables, tables, counting, record_on}
use Rattle.point_tables.specs.Meaning.Decide.{holds}
use Rattle.point_tables.specs.Meaning.Outcome.{Outcome, outcome}
use Rattle.replies.specs.declared.Count.{Count}
use Rattle.replies.specs.Meaning.Replies.{count}

-- the live slots, ascending
unfoldable pub live_slots : Tables → List ℕ
live_slots t = live_from 0 t.nums

-- every live slot is emptied, and no entry and no row of a cell is in use
unfoldable pub cleared : Tables → Tables
cleared t =
    tables (cleared_rows t.nums) t.reals t.ints (counting (cleared_map 0 t.nums t.map) 0 0) t.pool t.spots t.cells

-- ---- the outputs: a row (x, y) and a row (data, tracker) for each object
abbrev pub place_on : Tables → ℕ → List Float
place_on t s = (record_on t s).position.x ∷ (record_on t s).position.y ∷ []

abbrev pub obj_on : Tables → ℕ → List ℕ
obj_on t s = (record_on t s).obj ∷ tracker_at t.nums s ∷ []

pub record Written : Type 0 where
  pub returned : Count
  pub places : List (List Float)
  pub objs : List (List ℕ)

abbrev pub wrote : Count → List (List Float) → List (List ℕ) → Written
wrote c p o = record { returned = c; places = p; objs = o }

abbrev pub clear_tests : Tables → List (List Float) → List (List ℕ) → List Refusal
clear_tests t places objs = unless (holds t) 3 ∷ unless (leb (length (live_slots t)) (min (length places) (length objs))) 9 ∷ []

-- 9 returns the number of objects
unfoldable pub clear_of : Tables → List (List Float) → List (List ℕ) → Outcome Written
unfolding live_slots cleared
clear_of t places objs =
    let n = length (live_slots t) in
    by_tests (clear_tests t places objs)
    (outcome (wrote (count 0 n) (written (map (place_on t) (live_slots t)) places) (written (map (obj_on t) (live_slots t)) objs)) (cleared t))
    (λ a. outcome (wrote (count a (pick (eqb a 9) n 0)) places objs) t)
