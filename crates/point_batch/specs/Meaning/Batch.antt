-- A batch of deferred calls, with one check for all of them: what it is lent, answers and writes. Assumes nothing.
use Rattle.std.specs.Prelude.{◌&&◌, ◌∷◌, Float}
use Rattle.basics.specs.Words.{ℕ, Bool, List, [], length, get_or, eqb, leb}
use Rattle.basics.specs.Meaning.Refusals.{Refusal, unless, first_of, pick, by_tests}
use Rattle.slots.specs.declared.Handle.{Handle}
use Rattle.storage.specs.Meaning.Keyed.{written}
use Rattle.point_tables.specs.Meaning.Tables.{Tables}
use Rattle.point_tables.specs.Meaning.Decide.{holds}
use Rattle.point_tables.specs.Meaning.Outcome.{Outcome, outcome}
use Rattle.replies.specs.declared.Reply.{Reply}
use Rattle.point_deferred.specs.Meaning.Calls.{Call, tables_after, replies}
use Rattle.point_batch.specs.declared.BatchReply.{BatchReply}
use Rattle.point_records.specs.Meaning.Columns.{position_in}

-- ---- the calls as they are lent: kinds, handles (slot, version, tracker) and positions (x, y), a place of each for a call
abbrev pub handle_of : List ℕ → Handle
handle_of row = record { slot = get_or row 0 0; version = get_or row 1 0 }

abbrev pub named_in : List ℕ → ℕ
named_in row = get_or row 2 0

abbrev pub calls_of : List ℕ → List (List ℕ) → List (List Float) → List Call
calls_of [] hs ps = []
calls_of (k ∷ ks) [] ps = []
calls_of (k ∷ ks) (h ∷ hs) [] = []
calls_of (k ∷ ks) (h ∷ hs) (p ∷ ps) = record { kind = k; handle = handle_of h; at = position_in p; tracker = named_in h } ∷ calls_of ks hs ps

-- ---- the output: a row (answer, data) for each call
abbrev pub reply_row : Reply → List ℕ
reply_row r = r.answer ∷ r.obj ∷ []

abbrev pub reply_rows : List Reply → List (List ℕ)
reply_rows [] = []
reply_rows (r ∷ rs) = reply_row r ∷ reply_rows rs

abbrev pub even : List ℕ → List (List ℕ) → List (List Float) → Bool
even kinds handles positions = eqb (length handles) (length kinds) && eqb (length positions) (length kinds)

abbrev pub batch_tests : Tables → List ℕ → List (List ℕ) → List (List Float) → List (List ℕ) → List Refusal
batch_tests t kinds handles positions out =
    unless (even kinds handles positions && holds t) 3 ∷ unless (leb (length kinds) (length out)) 9 ∷ []

unfoldable pub batch_answer : Tables → List ℕ → List (List ℕ) → List (List Float) → List (List ℕ) → ℕ
batch_answer t kinds handles positions out = first_of (batch_tests t kinds handles positions out)

-- what a batch returns: its answer, and the number of its calls with 0 and with 9; and the output after it
pub record Batched : Type 0 where
  pub answer : ℕ
  pub count : ℕ
  pub out : List (List ℕ)

abbrev pub batched : ℕ → ℕ → List (List ℕ) → Batched
batched a n o = record { answer = a; count = n; out = o }

abbrev pub batched_by : BatchReply → List (List ℕ) → Batched
batched_by r out = batched r.answer r.count out

unfoldable pub batch_of : Tables → List ℕ → List (List ℕ) → List (List Float) → List (List ℕ) → Outcome Batched
unfolding batch_answer replies tables_after
batch_of t kinds handles positions out =
    let calls = calls_of kinds handles positions in
    by_tests (batch_tests t kinds handles positions out)
    (outcome (batched 0 (length kinds) (written (reply_rows (replies t calls)) out)) (tables_after t calls))
    (λ a. outcome (batched a (pick (eqb a 9) (length kinds) 0) out) t)
