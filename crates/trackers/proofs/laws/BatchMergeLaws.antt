-- A merge in one batch: the batch makes the calls of the merge, and every merge that keeps each tracker's own order gives each tracker the
-- same rows of the output and leaves the same tables. Assumes nothing.
use Rattle.basics.specs.Words.{ℕ, ◌≡◌, refl, sym, ap, ◌∙◌, ◌&&◌, List, [], ◌∷◌, ◌++◌, ⊎_elim, length, drop, length-map, eqb, leb}
use Rattle.basics.proofs.laws.Says.{d_eq}
use Rattle.basics.specs.Meaning.Refusals.{unless, first_of, pick}
use Rattle.storage.specs.Meaning.Keyed.{written}
use Rattle.storage.proofs.laws.FilterLaws.{by_test}
use Rattle.point_tables.specs.Meaning.Tables.{Tables}
use Rattle.point_tables.specs.Meaning.Decide.{holds}
use Rattle.point_tables.specs.Meaning.Outcome.{outcome}
use Rattle.point_deferred.specs.Meaning.Calls.{Call, call_of, tables_after, replies}
use Rattle.point_batch.specs.Meaning.Batch.{calls_of, reply_rows, batch_answer, batched}
use Rattle.point_batch.proofs.laws.BatchAnswerLaws.{batch_ran, batch-refused}
use Rattle.trackers.specs.Meaning.Merges.{those, replies_to, SameOrders, Alike, kinds_of, handles_used, positions_of, batch_for, SameBatch}
use Rattle.trackers.proofs.laws.MergeLaws.{any_merge}

-- ---- the batch's calls are those of the merge
pub batch_calls : (m : List Call) → calls_of (kinds_of m) (handles_used m) (positions_of m) ≡ m
batch_calls [] = refl
batch_calls (c ∷ m) = ap (λ (l : List Call). c ∷ l) (batch_calls m)

-- a tracker's rows of the output are the replies to it
rows_to_lem : (k : ℕ) (t : Tables) (m : List Call) (o : List (List ℕ)) → those k m (reply_rows (replies t m) ++ o) ≡ reply_rows (replies_to k t m)
unfolding those replies
rows_to_lem k t [] o = refl
rows_to_lem k t (c ∷ m) o =
    let ih = rows_to_lem k (call_of t c).after m o in
    by_test (eqb c.tracker k) (λ e. rw e (ap (λ (l : List (List ℕ)). ((call_of t c).result.answer ∷ (call_of t c).result.obj ∷ []) ∷ l) ih)) (λ e. rw e ih)

-- ---- the batch's answer looks at the number of calls, and not at the calls
module _ (t : Tables) (out : List (List ℕ)) where
  abbrev answer_for : List Call → ℕ
  answer_for m = batch_answer t (kinds_of m) (handles_used m) (positions_of m) out

  abbrev answer_by : ℕ → ℕ
  answer_by z = first_of (unless ((eqb z z && eqb z z) && holds t) 3 ∷ unless (leb z (length out)) 9 ∷ [])

  answer-long : (m : List Call) → answer_for m ≡ answer_by (length m)
  unfolding batch_answer
  answer-long m = simp length-map

  ran : (m : List Call) → answer_for m ≡ 0 → batch_for t m out ≡ outcome (batched 0 (length m) (written (reply_rows (replies t m)) out)) (tables_after t m)
  ran m e = batch_ran t (kinds_of m) (handles_used m) (positions_of m) out e ∙ rw (batch_calls m) (simp length-map)

  refused : (m : List Call) → (answer_for m ≡ 0 → ⊥) → batch_for t m out ≡ outcome (batched (answer_for m) (pick (eqb (answer_for m) 9) (length m) 0) out) t
  refused m n = batch-refused t (kinds_of m) (handles_used m) (positions_of m) out n ∙ simp length-map

  -- ---- two merges that are alike, as batches
  module _ (m n : List Call) (w : Alike t m n) where
    same_answer : answer_for n ≡ answer_for m
    same_answer = answer-long n ∙ ap answer_by (sym w.long) ∙ sym (answer-long m)

    both_ran : answer_for m ≡ 0 → SameBatch m n (batch_for t m out) (batch_for t n out)
    both_ran e =
        rw (ran m e, ran n (same_answer ∙ e))
        (record {
          answer = refl;
          count = w.long;
          tables = w.tables;
          rows = λ z k. rows_to_lem k t m (drop (length (reply_rows (replies t m))) out) ∙ ap reply_rows (w.replied k) ∙ sym (rows_to_lem k t n (drop (length (reply_rows (replies t n))) out));
        })

    both-refused : (answer_for m ≡ 0 → ⊥) → SameBatch m n (batch_for t m out) (batch_for t n out)
    both-refused a =
        rw (refused m a, refused n (λ e. a (sym same_answer ∙ e)))
        (record { answer = sym same_answer; count = λ i. pick (eqb (sym same_answer i) 9) (w.long i) 0; tables = refl; rows = λ z. absurd (a z) })

    alike-batch : SameBatch m n (batch_for t m out) (batch_for t n out)
    alike-batch = ⊎_elim both_ran both-refused (d_eq (answer_for m) 0)

pub any_merge_batch : (t : Tables) (out : List (List ℕ)) (m n : List Call) → SameOrders m n → SameBatch m n (batch_for t m out) (batch_for t n out)
any_merge_batch t out m n e = alike-batch t out m n (any_merge t m n e)
