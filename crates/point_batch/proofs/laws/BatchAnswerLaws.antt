-- The answers of a batch: what 0 says, what it leaves with each, and that it keeps a grid. Assumes nothing.
use Rattle.basics.specs.Words.{ℕ, ◌≤◌, ◌≡◌, refl, Bool, true, false, ◌&&◌, List, ⊎_elim, length, eqb, leb, arith, eqb-true, leb-true, ne_eqb}
use lib.Ieee.{Float}
use Rattle.basics.proofs.laws.Says.{apart, d_eq}
use Rattle.basics.specs.Meaning.Refusals.{or_else, pick}
use Rattle.storage.specs.Meaning.Keyed.{written}
use Rattle.point_tables.specs.Meaning.Tables.{Tables}
use Rattle.point_tables.specs.Meaning.Holds.{Holds}
use Rattle.point_tables.specs.Meaning.Decide.{holds}
use Rattle.point_tables.specs.Meaning.Outcome.{Outcome, outcome}
use Rattle.point_deferred.specs.Meaning.Calls.{replies, tables_after}
use Rattle.point_batch.specs.Meaning.Batch.{calls_of, reply_rows, even, batch_answer, Batched, batched, batch_of}
use Rattle.point_deferred.proofs.laws.MovesKeeps.{calls_keep}

module _ (t : Tables) (kinds : List ℕ) (handles : List (List ℕ)) (positions : List (List Float)) (out : List (List ℕ)) where
  abbrev answer : ℕ
  answer = batch_answer t kinds handles positions out

  abbrev whole : Outcome Batched
  whole = batch_of t kinds handles positions out

  -- ---- 0: the lists are even, the tables hold a grid, and the output has a place for each call
  pub record Runnable : Type 0 where
    pub of_handles_lem : length handles ≡ length kinds
    pub of_positions : length positions ≡ length kinds
    pub held : holds t ≡ true
    pub room : length kinds ≤ length out

  two : (a b : Bool) → or_else a 3 (or_else b 9 0) ≡ 0 → (a ≡ true) × (b ≡ true)
  two true true e = (refl, refl)
  two true false e = absurd (omega arith)
  two false b e = absurd (omega arith)

  three : (a b c : Bool) → ((a && b) && c) ≡ true → (a ≡ true) × (b ≡ true) × (c ≡ true)
  three true true c e = (refl, refl, e)
  three true false c e = absurd (apart e)
  three false b c e = absurd (apart e)

  pub batch-accepted : answer ≡ 0 → Runnable
  unfolding batch_answer
  batch-accepted e =
      let f = two (even kinds handles positions && holds t) (leb (length kinds) (length out)) e in
      let g = three (eqb (length handles) (length kinds)) (eqb (length positions) (length kinds)) (holds t) f.0 in
      record { of_handles_lem = eqb-true _ _ g.0; of_positions = eqb-true _ _ g.1; held = g.2; room = leb-true _ _ f.1 }

  -- ---- what it leaves: refused, no more than the number of calls with 9; with 0 what the calls make one after the other
  pub batch-refused : (answer ≡ 0 → ⊥) → whole ≡ outcome (batched answer (pick (eqb answer 9) (length kinds) 0) out) t
  unfolding batch_of
  batch-refused n = rw (ne_eqb answer 0 n)

  pub batch_ran : answer ≡ 0 → whole ≡ outcome (batched 0 (length kinds) (written (reply_rows (replies t (calls_of kinds handles positions))) out)) (tables_after t (calls_of kinds handles positions))
  unfolding batch_of
  batch_ran e = rw e

  -- ---- tables that hold a grid are followed by tables that do
  pub batch_keeps : Holds t → Holds whole.after
  batch_keeps g =
      ⊎_elim (λ e. rw (batch_ran e) (calls_keep t (calls_of kinds handles positions) g)) (λ n. rw (batch-refused n) g) (d_eq answer 0)
