-- The answers of the deferred calls: 3 exactly where the tables hold no grid, and what a refused call leaves. Assumes nothing.
use Rattle.basics.specs.Words.{ℕ, ◌≡◌, refl, sym, ◌∙◌, Bool, true, false, not, List, ⊎_elim, eqb, arith}
use Rattle.basics.specs.Meaning.Says.{Says}
use Rattle.basics.proofs.laws.Says.{apart, says_yes, says_no, d_eq}
use Rattle.basics.specs.Meaning.Refusals.{or_else, pick}
use Rattle.geometry.specs.Meaning.Domain.{position_in_domain}
use Rattle.geometry.specs.declared.Position.{Position}
use Rattle.slots.specs.declared.Handle.{Handle}
use Rattle.point_records.specs.declared.State.{State}
use Rattle.point_records.specs.Meaning.States.{is_removed}
use Rattle.point_records.proofs.laws.OwnLaws.{own_refusal, by_own}
use Rattle.point_tables.specs.Meaning.Tables.{Tables, record_on}
use Rattle.point_tables.specs.Meaning.Holds.{Holds}
use Rattle.point_tables.specs.Meaning.Decide.{holds, holds_says}
use Rattle.point_tables.specs.Meaning.Outcome.{Outcome}
use Rattle.replies.specs.declared.Reply.{Reply}
use Rattle.point_deferred.specs.Meaning.Moves.{set_position_answer, set_position_of, remove_answer, remove_of}
use Rattle.point_deferred.specs.Meaning.Calls.{Call, call_of}
use Rattle.point_deferred.proofs.laws.MovesLaws.{past-own, set_tests, by_zero, set-refused, set-done, remove-refused, remove-done}

-- ---- what is answered is the answer
pub set-answer_is : (t : Tables) (h : Handle) (at : Position) (k : ℕ) → (set_position_of t h at k).result.answer ≡ set_position_answer t h at k
set-answer_is t h at k =
    ⊎_elim (λ e. rw (set-done t h at k e) (sym e)) (λ n. rw (set-refused t h at k n)) (d_eq (set_position_answer t h at k) 0)

pub remove-answer_is : (t : Tables) (h : Handle) (k : ℕ) → (remove_of t h k).result.answer ≡ remove_answer t h k
remove-answer_is t h k = ⊎_elim (λ e. rw (remove-done t h k e) (sym e)) (λ n. rw (remove-refused t h k n)) (d_eq (remove_answer t h k) 0)

-- ---- 3 exactly where the tables hold no grid
own_not_three : (nums : List (List ℕ)) (h : Handle) (k : ℕ) → own_refusal nums h k ≡ 3 → ⊥
own_not_three nums h k = by_own nums h k (λ (n : ℕ). n ≡ 3 → ⊥) (λ e. omega arith) (λ e. omega arith) (λ e. omega arith) (λ e. omega arith) (λ e. omega arith)

set_three : (a b : Bool) (state : State) (n : ℕ) → (n ≡ 3 → ⊥) → Says (not a) (or_else a 3 (or_else b 6 (past-own n state)) ≡ 3)
set_three true true state n u = says_no (by_zero (λ (m : ℕ). m ≡ 3 → ⊥) n (or_else (not (is_removed state)) 1 0) (λ z. removed (not (is_removed state))) (λ z. u))
  where
    removed : (b : Bool) → or_else b 1 0 ≡ 3 → ⊥
    removed true e = omega arith
    removed false e = omega arith
set_three true false state n u = says_no (λ e. omega arith)
set_three false b state n u = says_yes refl

remove_three : (a : Bool) (n : ℕ) → (n ≡ 3 → ⊥) → Says (not a) (or_else a 3 n ≡ 3)
remove_three true n u = says_no u
remove_three false n u = says_yes refl

pub set_unheld : (t : Tables) (h : Handle) (at : Position) (k : ℕ) → Says (not (holds t)) ((set_position_of t h at k).result.answer ≡ 3)
unfolding set_position_answer
set_unheld t h at k =
    let state = (record_on t h.slot).state in
    rw (set-answer_is t h at k, set_tests t.nums state h at k) (set_three (holds t) (position_in_domain at) state (own_refusal t.nums h k) (own_not_three t.nums h k))

pub remove_unheld : (t : Tables) (h : Handle) (k : ℕ) → Says (not (holds t)) ((remove_of t h k).result.answer ≡ 3)
unfolding remove_answer
remove_unheld t h k = rw (remove-answer_is t h k) (remove_three (holds t) (own_refusal t.nums h k) (own_not_three t.nums h k))

-- ---- a call of either kind
module _ (t : Tables) (c : Call) where
  -- what holds of both kinds holds of the call
  by_kind : (P : Outcome Reply → Type 0) → P (set_position_of t c.handle c.at c.tracker) → P (remove_of t c.handle c.tracker) → P (call_of t c)
  unfolding call_of
  by_kind P p q = go (eqb c.kind 0)
    where
      go : (b : Bool) → P (pick b (set_position_of t c.handle c.at c.tracker) (remove_of t c.handle c.tracker))
      go true = p
      go false = q

  pub call_unheld : Says (not (holds t)) ((call_of t c).result.answer ≡ 3)
  call_unheld = by_kind (λ o. Says (not (holds t)) (o.result.answer ≡ 3)) (set_unheld t c.handle c.at c.tracker) (remove_unheld t c.handle c.tracker)

  -- on tables that hold a grid no call answers 3
  pub never_three : Holds t → (call_of t c).result.answer ≡ 3 → ⊥
  never_three g e = apart (rw ((holds_says t).no g) at (call_unheld.no e))

  -- a refused call changes nothing and returns 0
  pub call-refused : ((call_of t c).result.answer ≡ 0 → ⊥) → ((call_of t c).after ≡ t) × ((call_of t c).result.obj ≡ 0)
  call-refused =
      by_kind (λ o. (o.result.answer ≡ 0 → ⊥) → (o.after ≡ t) × (o.result.obj ≡ 0))
      (λ n. rw (set-refused t c.handle c.at c.tracker (λ e. n (set-answer_is t c.handle c.at c.tracker ∙ e))) (refl, refl))
      (λ n. rw (remove-refused t c.handle c.tracker (λ e. n (remove-answer_is t c.handle c.tracker ∙ e))) (refl, refl))
