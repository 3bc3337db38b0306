-- `get`, `len` and `handles`: recorded position, data and tracker; removed objects count until maintain. Assumes nothing.
use Rattle.std.specs.Prelude.{◌∷◌}
use Rattle.basics.specs.Words.{ℕ, List, [], length, eqb, leb}
use Rattle.basics.specs.Meaning.Refusals.{Refusal, unless, pick, by_tests}
use Rattle.geometry.specs.declared.Position.{Position}
use Rattle.geometry.specs.Meaning.Zero.{zero-position}
use Rattle.slots.specs.declared.Handle.{Handle}
use Rattle.slots.specs.Meaning.Slot.{handle_test}
use Rattle.storage.specs.Meaning.Keyed.{written}
use Rattle.slot_walks.specs.Meaning.Live.{handles_in}
use Rattle.point_records.specs.Meaning.Word.{tracker_at}
use Rattle.point_tables.specs.Meaning.Tables.{Tables, record_on}
use Rattle.point_tables.specs.Meaning.Decide.{holds}
use Rattle.point_get.specs.declared.Got.{Got}
use Rattle.replies.specs.declared.Count.{Count}
use Rattle.replies.specs.Meaning.Replies.{count}

abbrev pub got : ℕ → Position → ℕ → ℕ → Got
got a p d k = record { answer = a; position = p; obj = d; tracker = k }

-- ---- get
abbrev pub get_tests : Tables → Handle → List Refusal
get_tests t h = unless (holds t) 3 ∷ handle_test t.nums h ∷ []

unfoldable pub get_of : Tables → Handle → Got
get_of t h =
    by_tests (get_tests t h)
    (got 0 (record_on t h.slot).position (record_on t h.slot).obj (tracker_at t.nums h.slot))
    (λ a. got a zero-position 0 0)

-- ---- the handles of the live slots, as rows (slot, version), ascending by slot
unfoldable pub live_handles : Tables → List (List ℕ)
live_handles t = handles_in t.nums

-- ---- len: the number of objects
abbrev pub len_tests : Tables → List Refusal
len_tests t = unless (holds t) 3 ∷ []

unfoldable pub len_of : Tables → Count
unfolding live_handles
len_of t = by_tests (len_tests t) (count 0 (length (live_handles t))) (λ a. count a 0)

-- ---- handles: what it returns and the output after it; 9 returns the number found
pub record Listing : Type 0 where
  pub returned : Count
  pub out : List (List ℕ)

abbrev pub listing : Count → List (List ℕ) → Listing
listing c o = record { returned = c; out = o }

abbrev pub handles_tests : Tables → List (List ℕ) → List Refusal
handles_tests t out = unless (holds t) 3 ∷ unless (leb (length (live_handles t)) (length out)) 9 ∷ []

unfoldable pub handles_of : Tables → List (List ℕ) → Listing
unfolding live_handles
handles_of t out =
    by_tests (handles_tests t out)
    (listing (count 0 (length (live_handles t))) (written (live_handles t) out))
    (λ a. listing (count a (pick (eqb a 9) (length (live_handles t)) 0)) out)
