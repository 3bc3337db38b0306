-- `query_broad` and `query`: the boxes of a range of cells, each once, at its first place in the walk; of these `query` keeps those for
-- which `intersects` holds, the query box first. Assumes nothing.
use Rattle.std.specs.Prelude.{◌∷◌, Float}
use Rattle.basics.specs.Words.{ℕ, min, List, [], map, length, eqb, leb}
use Rattle.basics.specs.Meaning.Limits.{most_cells}
use Rattle.basics.specs.Meaning.Refusals.{Refusal, unless, first_of, pick, by_tests}
use Rattle.geometry.specs.declared.Aabb.{Aabb}
use Rattle.geometry.specs.Meaning.Domain.{aabb_in_domain}
use Rattle.storage.specs.Meaning.Keyed.{written}
use Rattle.box_tables.specs.Meaning.Tables.{Tables, size_of, obj_on, covers}
use Rattle.box_tables.specs.Meaning.Decide.{holds}
use Rattle.replies.specs.declared.Count.{Count}
use Rattle.box_search.specs.Meaning.Search.{broad, narrow, box_row}
use Rattle.replies.specs.Meaning.Replies.{count}
use Rattle.slot_walks.specs.Meaning.Live.{handle_at}

-- ---- the tests, where `number` are found and the outputs have `room`
abbrev pub look_tests : Tables → Aabb → ℕ → ℕ → List Refusal
look_tests t q number room =
    unless (holds t) 3
    ∷ unless (aabb_in_domain q) 6
    ∷ unless (leb (covers (size_of t) q) most_cells) 7
    ∷ unless (leb number room) 9
    ∷ []

unfoldable pub look_answer : Tables → Aabb → ℕ → ℕ → ℕ
look_answer t q number room = first_of (look_tests t q number room)

-- ---- `query_broad`: what it returns, and its output after it; 9 returns the number found
pub record Handles : Type 0 where
  pub returned : Count
  pub handles : List (List ℕ)

abbrev pub handles_of : Count → List (List ℕ) → Handles
handles_of c h = record { returned = c; handles = h }

abbrev pub broad_tests : Tables → Aabb → List (List ℕ) → List Refusal
broad_tests t q handles = look_tests t q (length (broad t q)) (length handles)

unfoldable pub broad_of : Tables → Aabb → List (List ℕ) → Handles
unfolding look_answer broad
broad_of t q handles =
    let ss = broad t q in
    by_tests (broad_tests t q handles)
    (handles_of (count 0 (length ss)) (written (map (handle_at t.nums) ss) handles))
    (λ a. handles_of (count a (pick (eqb a 9) (length ss) 0)) handles)

-- ---- `query`
pub record Findings : Type 0 where
  pub returned : Count
  pub handles : List (List ℕ)
  pub boxes : List (List Float)
  pub objs : List ℕ

abbrev pub findings : Count → List (List ℕ) → List (List Float) → List ℕ → Findings
findings c h b o = record { returned = c; handles = h; boxes = b; objs = o }

-- the places of the shortest output
abbrev pub room_of : List (List ℕ) → List (List Float) → List ℕ → ℕ
room_of handles boxes objs = min (length handles) (min (length boxes) (length objs))

abbrev pub query_tests : Tables → Aabb → List (List ℕ) → List (List Float) → List ℕ → List Refusal
query_tests t q handles boxes objs = look_tests t q (length (narrow t q)) (room_of handles boxes objs)

unfoldable pub query_of : Tables → Aabb → List (List ℕ) → List (List Float) → List ℕ → Findings
unfolding look_answer narrow
query_of t q handles boxes objs =
    let ss = narrow t q in
    by_tests (query_tests t q handles boxes objs)
    (findings (count 0 (length ss)) (written (map (handle_at t.nums) ss) handles) (written (map (box_row t.reals) ss) boxes) (written (map (obj_on t) ss) objs))
    (λ a. findings (count a (pick (eqb a 9) (length ss) 0)) handles boxes objs)
