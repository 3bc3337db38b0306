-- Trackers share a point grid: each deferred call names its tracker, and a merge is a list of such calls. What each tracker sees of it.
-- Assumes nothing.
use Rattle.std.specs.Prelude.{◌≡◌, ◌∷◌, Float}
use Rattle.basics.specs.Words.{ℕ, List, [], map, length, eqb}
use Rattle.basics.specs.Meaning.Refusals.{pick}
use Rattle.point_tables.specs.Meaning.Tables.{Tables}
use Rattle.point_tables.specs.Meaning.Outcome.{Outcome}
use Rattle.replies.specs.declared.Reply.{Reply}
use Rattle.point_deferred.specs.Meaning.Calls.{Call, tables_after, replies}
use Rattle.point_batch.specs.Meaning.Batch.{Batched, batch_of}

-- out of a list with a place for each call: what stands at the calls of tracker k, in order
unfoldable pub those : {A : Type 0} → ℕ → List Call → List A → List A
those k [] xs = []
those k (c ∷ m) [] = []
those k (c ∷ m) (x ∷ xs) = pick (eqb c.tracker k) (x ∷ those k m xs) (those k m xs)

-- the calls of tracker k, and the replies to them, answer and data, each in order
abbrev pub own : ℕ → List Call → List Call
own k m = those k m m

abbrev pub replies_to : ℕ → Tables → List Call → List Reply
replies_to k t m = those k m (replies t m)

-- two merges in which each tracker number has the same calls in the same order
abbrev pub SameOrders : List Call → List Call → Type 0
SameOrders m n = (k : ℕ) → own k m ≡ own k n

-- ---- two merges that neither the tables nor a tracker can tell apart
pub record Alike (t : Tables) (m n : List Call) : Type 0 where
  pub tables : tables_after t m ≡ tables_after t n
  pub replied : (k : ℕ) → replies_to k t m ≡ replies_to k t n
  pub long : length m ≡ length n

-- ---- a merge as a batch, which is handed kinds, handles with trackers, and positions
abbrev pub kinds_of : List Call → List ℕ
kinds_of m = map (λ c. c.kind) m

abbrev pub handles_used : List Call → List (List ℕ)
handles_used m = map (λ c. c.handle.slot ∷ c.handle.version ∷ c.tracker ∷ []) m

abbrev pub positions_of : List Call → List (List Float)
positions_of m = map (λ c. c.at.x ∷ c.at.y ∷ []) m

abbrev pub batch_for : Tables → List Call → List (List ℕ) → Outcome Batched
batch_for t m out = batch_of t (kinds_of m) (handles_used m) (positions_of m) out

-- the same of what two batches leave: answer, count and tables, and if they are accepted each tracker's rows of the output
pub record SameBatch (m n : List Call) (a b : Outcome Batched) : Type 0 where
  pub answer : a.result.answer ≡ b.result.answer
  pub count : a.result.count ≡ b.result.count
  pub tables : a.after ≡ b.after
  pub rows : a.result.answer ≡ 0 → (k : ℕ) → those k m a.result.out ≡ those k n b.result.out
