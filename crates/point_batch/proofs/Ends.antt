-- The ends of a batch, from what its steps give. Assumes nothing.
use Rattle.basics.specs.Words.{ℕ, ◌≤◌, ◌≡◌, ap, sym, ◌∙◌, Bool, ◌&&◌, List, [], ◌∷◌, length, eqb, leb}
use lib.Ieee.{Float}
use Rattle.basics.specs.Meaning.Refusals.{unless, first_of, pick}
use Rattle.storage.specs.Meaning.Keyed.{written}
use Rattle.point_tables.specs.Meaning.Tables.{Tables}
use Rattle.point_tables.specs.Meaning.Holds.{Holds}
use Rattle.point_tables.specs.Meaning.Decide.{holds, holds_says}
use Rattle.point_tables.specs.Meaning.Outcome.{outcome}
use Rattle.replies.specs.declared.Reply.{Reply}
use Rattle.point_batch.specs.declared.BatchReply.{BatchReply}
use Rattle.point_deferred.specs.Meaning.Calls.{replies, tables_after}
use Rattle.point_batch.specs.Meaning.Batch.{calls_of, reply_rows, batch_answer, batched, batch_of}
use Rattle.point_deferred.proofs.laws.Held.{with_pool}
use Rattle.point_deferred.specs.Inner.Held.{held_after, held_replies}
use Rattle.point_deferred.proofs.laws.HeldLaws.{after-worked, replies-worked}
use Rattle.point_batch.proofs.laws.BatchAnswerLaws.{batch-accepted, batch-refused, batch_ran}

-- the answer a to a batch is right; t: the tables without the pool
pub record Answered (t : Tables) (pool : List (List ℕ)) (spots : List (List Float)) (kinds : List ℕ) (handles : List (List ℕ)) (positions : List (List Float)) (out : List (List ℕ)) (a : ℕ) : Type 0 where
  pub is : a ≡ batch_answer (with_pool t pool spots) kinds handles positions out

module _ {t : Tables} {pool : List (List ℕ)} {spots : List (List Float)} {kinds : List ℕ} {handles : List (List ℕ)} {positions : List (List Float)} {out : List (List ℕ)} {a : ℕ} where
  -- the verdict of the check is the right one
  pub answered : {held : Bool} → held ≡ holds (with_pool t pool spots) → a ≡ first_of (unless ((eqb (length handles) (length kinds) && eqb (length positions) (length kinds)) && held) 3 ∷ unless (leb (length kinds) (length out)) 9 ∷ []) → Answered t pool spots kinds handles positions out a
  answered h e = record { is = unfold batch_answer in e ∙ ap (λ (b : Bool). first_of (unless ((eqb (length handles) (length kinds) && eqb (length positions) (length kinds)) && b) 3 ∷ unless (leb (length kinds) (length out)) 9 ∷ [])) h }

  module _ (e : Answered t pool spots kinds handles positions out a) where
    abbrev all : Tables
    all = with_pool t pool spots

    pub refused : {r : BatchReply} → (a ≡ 0 → ⊥) → (r.answer ≡ a) × (r.count ≡ pick (eqb a 9) (length kinds) 0) → outcome (batched r.answer r.count out) all ≡ batch_of all kinds handles positions out
    refused {r} z w =
        (λ i. outcome (batched (w.0 i) (w.1 i) out) all) ∙ ap (λ (k : ℕ). outcome (batched k (pick (eqb k 9) (length kinds) 0) out) all) e.is
        ∙ sym (batch-refused all kinds handles positions out (λ q. z (e.is ∙ q)))

    pub lengths : a ≡ 0 → (length handles ≡ length kinds) × (length positions ≡ length kinds) × (length kinds ≤ length out)
    lengths z = let w = batch-accepted all kinds handles positions out (sym e.is ∙ z) in (w.of_handles_lem, w.of_positions, w.room)

    pub found : a ≡ 0 → Holds all
    found z = (holds_says all).yes (batch-accepted all kinds handles positions out (sym e.is ∙ z)).held

    -- u: the tables after the calls
    pub ran : {u : Tables} {n : ℕ} {after : List (List ℕ)} → n ≡ length kinds → a ≡ 0
        → (u ≡ held_after t (calls_of kinds handles positions)) × (after ≡ written (reply_rows (held_replies t (calls_of kinds handles positions))) out)
        → outcome (batched 0 n after) (with_pool u pool spots) ≡ batch_of all kinds handles positions out
    ran {u} {n} {after} q z w =
        let cs = calls_of kinds handles positions in
        let p : with_pool u pool spots ≡ tables_after all cs = ap (λ (x : Tables). with_pool x pool spots) w.0 ∙ sym (after-worked pool spots t (found z) cs) in
        let o : after ≡ written (reply_rows (replies all cs)) out = w.1 ∙ ap (λ (l : List Reply). written (reply_rows l) out) (sym (replies-worked pool spots t (found z) cs)) in
        (λ i. outcome (batched 0 (q i) (o i)) (p i)) ∙ sym (batch_ran all kinds handles positions out (sym e.is ∙ z))
