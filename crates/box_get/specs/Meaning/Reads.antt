-- `get`, `len` and `handles` of a box grid: box and data, the number of objects, their handles ascending by slot. Assumes nothing.
use Rattle.std.specs.Prelude.{◌∷◌}
use Rattle.basics.specs.Words.{ℕ, List, [], length, eqb}
use Rattle.basics.specs.Meaning.Refusals.{Refusal, unless, pick, by_tests}
use Rattle.geometry.specs.declared.Aabb.{Aabb}
use Rattle.geometry.specs.Meaning.Zero.{zero-aabb}
use Rattle.slots.specs.declared.Handle.{Handle}
use Rattle.slots.specs.Meaning.Slot.{handle_test}
use Rattle.storage.specs.Meaning.Keyed.{written}
use Rattle.slot_walks.specs.Meaning.Live.{handles_in}
use Rattle.box_tables.specs.Meaning.Tables.{Tables, aabb_on, obj_on}
use Rattle.box_tables.specs.Meaning.Decide.{holds}
use Rattle.box_get.specs.declared.Got.{Got}
use Rattle.replies.specs.declared.Count.{Count}
use Rattle.box_get.specs.Meaning.Live.{live_slots, list_tests}
use Rattle.replies.specs.Meaning.Replies.{count}

abbrev pub got : ℕ → Aabb → ℕ → Got
got a b d = record { answer = a; aabb = b; obj = d }

-- ---- get
abbrev pub get_tests : Tables → Handle → List Refusal
get_tests t h = unless (holds t) 3 ∷ handle_test t.nums h ∷ []

unfoldable pub get_of : Tables → Handle → Got
get_of t h = by_tests (get_tests t h) (got 0 (aabb_on t h.slot) (obj_on t h.slot)) (λ a. got a zero-aabb 0)

-- ---- len: the number of objects
abbrev pub len_tests : Tables → List Refusal
len_tests t = unless (holds t) 3 ∷ []

unfoldable pub len_of : Tables → Count
len_of t = by_tests (len_tests t) (count 0 (length (live_slots t))) (λ a. count a 0)

-- ---- handles, as rows (slot, version): what it returns and the output after it; 9 returns the number found
pub record Listing : Type 0 where
  pub returned : Count
  pub out : List (List ℕ)

abbrev pub listing : Count → List (List ℕ) → Listing
listing c o = record { returned = c; out = o }

abbrev pub handles_tests : Tables → List (List ℕ) → List Refusal
handles_tests t out = list_tests t (length out)

unfoldable pub handles_of : Tables → List (List ℕ) → Listing
handles_of t out =
    let n = length (live_slots t) in
    by_tests (handles_tests t out) (listing (count 0 n) (written (handles_in t.nums) out)) (λ a. listing (count a (pick (eqb a 9) n 0)) out)
