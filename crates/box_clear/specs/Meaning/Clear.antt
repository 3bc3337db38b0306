-- `clear` of a box grid writes box and data, ascending by slot, then empties the grid: versions rise as with any emptying. Assumes nothing.
use Rattle.basics.specs.Words.{ℕ, min, List, map, length, eqb}
use Rattle.std.specs.Prelude.{Float}
use Rattle.basics.specs.Meaning.Refusals.{Refusal, pick, by_tests}
use Rattle.storage.specs.Meaning.Keyed.{written}
use Rattle.slot_walks.specs.Meaning.Cleared.{cleared_rows, cleared_map}
use Rattle.box_tables.specs.Meaning.Tables.{Tables, tables, counting, aabb_at, corners_of}
use Rattle.box_tables.specs.Meaning.Outcome.{Outcome, outcome}
use Rattle.replies.specs.declared.Count.{Count}
use Rattle.replies.specs.Meaning.Replies.{count}
use Rattle.box_get.specs.Meaning.Live.{live_slots, list_tests}
use Rattle.slot_walks.specs.Meaning.Live.{obj_at}

-- every live slot is emptied, and no entry is in use
unfoldable pub cleared : Tables → Tables
cleared t = tables (cleared_rows t.nums) t.reals (counting (cleared_map 0 t.nums t.map) 0) t.pool

-- ---- the outputs: a row (lower left x, y, upper right x, y) and a number for each object
abbrev pub box_at : List (List Float) → ℕ → List Float
box_at reals s = corners_of (aabb_at reals s)

pub record Written : Type 0 where
  pub returned : Count
  pub boxes : List (List Float)
  pub objs : List ℕ

abbrev pub wrote : Count → List (List Float) → List ℕ → Written
wrote c b o = record { returned = c; boxes = b; objs = o }

abbrev pub clear_tests : Tables → List (List Float) → List ℕ → List Refusal
clear_tests t boxes objs = list_tests t (min (length boxes) (length objs))

-- 9 returns the number of objects
unfoldable pub clear_of : Tables → List (List Float) → List ℕ → Outcome Written
clear_of t boxes objs =
    let n = length (live_slots t) in
    by_tests (clear_tests t boxes objs)
    (outcome (wrote (count 0 n) (written (map (box_at t.reals) (live_slots t)) boxes) (written (map (obj_at t.nums) (live_slots t)) objs)) (cleared t))
    (λ a. outcome (wrote (count a (pick (eqb a 9) n 0)) boxes objs) t)
