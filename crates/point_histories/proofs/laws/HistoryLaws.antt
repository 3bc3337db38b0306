-- The length law: since an accepted `new`, the number of objects is that of the accepted inserts less the objects taken out. Assumes nothing.
use Rattle.basics.specs.Words.{ℕ, ◌+◌, ◌≡◌, refl, sym, ap, ◌∙◌, Bool, true, false, List, [], ◌∷◌, ⊎_elim, eqb, leb, arith, eqb-true, eqb-false, ne_eqb, leb-true, leb-false}
use lib.Ieee.{Float}
use Rattle.basics.proofs.laws.Says.{apart, says_t, d_eq}
use Rattle.geometry.specs.declared.Position.{Position}
use Rattle.geometry.specs.Meaning.Domain.{position_in_domain}
use Rattle.slots.specs.declared.Handle.{Handle}
use Rattle.std.specs.Prelude.{None, Option, Some}
use Rattle.slots.proofs.laws.SlotLaws.{lowest_free}
use Rattle.storage.proofs.laws.FilterLaws.{by_test}
use Rattle.point_records.specs.Meaning.Trackers.{last_tracker}
use Rattle.point_records.proofs.laws.OwnLaws.{own_refusal, own-passed}
use Rattle.point_tables.specs.Meaning.Tables.{Tables, used_of}
use Rattle.point_tables.specs.Meaning.Holds.{Holds}
use Rattle.point_tables.specs.Meaning.Decide.{holds_says}
use Rattle.point_insert.specs.Meaning.New.{built, new_answer, new_of}
use Rattle.point_insert.proofs.laws.NewLaws.{new-holds}
use Rattle.point_insert.specs.Meaning.Insert.{usable_slot, insert_of}
use Rattle.point_insert.proofs.laws.InsertLaws.{insert-done, insert_outside, insert_untracked, insert_full, insert-holds}
use Rattle.point_insert.proofs.laws.PutLaws.{more, put-used}
use Rattle.point_deferred.specs.Meaning.Moves.{pended, set_position_answer, set_position_of, remove_answer, remove_of}
use Rattle.point_deferred.specs.Meaning.Calls.{Call, call_of, tables_after}
use Rattle.point_batch.specs.Meaning.Batch.{calls_of, batch_answer, batch_of}
use Rattle.point_deferred.proofs.laws.MovesKeeps.{set-position_keeps, remove_keeps}
use Rattle.point_batch.proofs.laws.BatchAnswerLaws.{batch_keeps}
use Rattle.point_remove.specs.Meaning.RemoveMaintain.{remove_maintain_of}
use Rattle.point_remove.proofs.laws.RemoveLaws.{remove-refused, remove-done, remove-holds, remove-count}
use Rattle.point_clear.specs.Meaning.Clear.{clear_of}
use Rattle.point_clear.proofs.laws.ClearLaws.{clear-refused, clear-holds, clear-counts, clear_empty}
use Rattle.point_maintain.proofs.laws.MaintainLaws.{maintain_keeps, maintain-length}
use Rattle.point_get.specs.Meaning.{len_of}
use Rattle.point_get.proofs.laws.ReadsLaws.{len_0}
use Rattle.point_get.proofs.laws.LenLaws.{len-used}
use Rattle.point_histories.specs.Inner.History.{Op, insert, set_position, remove, batch, maintain, remove_maintain, clear, after, after_all, accepted, put_in}
use Rattle.point_histories.specs.Inner.History.{objects_taken_out, all_in, all_out}

-- ---- every call keeps the tables holding a grid
pub after_holds : (t : Tables) (o : Op) → Holds t → Holds (after t o)
unfolding after
after_holds t (insert p d k) h = insert-holds t p d k h
after_holds t (set_position g p k) h = set-position_keeps t g p k h
after_holds t (remove g k) h = remove_keeps t g k h
after_holds t (batch ks hs ps out) h = batch_keeps t ks hs ps out h
after_holds t maintain h = maintain_keeps t h
after_holds t (remove_maintain g k) h = remove-holds t g k h
after_holds t (clear ps os) h = clear-holds t ps os h

pub all_hold : (t : Tables) (os : List Op) → Holds t → Holds (after_all t os)
unfolding after_all
all_hold t [] h = h
all_hold t (o ∷ os) h = all_hold (after t o) os (after_holds t o h)

-- ---- the deferred calls change no count
set-used : (t : Tables) (g : Handle) (p : Position) (k : ℕ) → used_of (set_position_of t g p k).after ≡ used_of t
unfolding set_position_of pended
set-used t g p k = by_test (eqb (set_position_answer t g p k) 0) (λ e. rw e) (λ e. rw e)

remove-used : (t : Tables) (g : Handle) (k : ℕ) → used_of (remove_of t g k).after ≡ used_of t
unfolding remove_of pended
remove-used t g k = by_test (eqb (remove_answer t g k) 0) (λ e. rw e) (λ e. rw e)

call-used : (t : Tables) (c : Call) → used_of (call_of t c).after ≡ used_of t
unfolding call_of
call-used t c = by_test (eqb c.kind 0) (λ e. rw e (set-used t c.handle c.at c.tracker)) (λ e. rw e (remove-used t c.handle c.tracker))

calls_used : (t : Tables) (cs : List Call) → used_of (tables_after t cs) ≡ used_of t
unfolding tables_after
calls_used t [] = refl
calls_used t (c ∷ cs) = calls_used (call_of t c).after cs ∙ call-used t c

batch-used : (t : Tables) (ks : List ℕ) (hs : List (List ℕ)) (ps : List (List Float)) (out : List (List ℕ)) → used_of (batch_of t ks hs ps out).after ≡ used_of t
unfolding batch_of
batch-used t ks hs ps out = by_test (eqb (batch_answer t ks hs ps out) 0) (λ e. rw e (calls_used t (calls_of ks hs ps))) (λ e. rw e)

-- ---- the others say what they do
module _ (t : Tables) (h : Holds t) where
  insert-used : (p : Position) (d k : ℕ) → used_of (insert_of t p d k).after ≡ used_of t + accepted (insert_of t p d k).result.answer 1
  insert-used p d k = go (position_in_domain p) refl (leb k last_tracker) refl (usable_slot t) refl
    where
      go :
          (b : Bool) → position_in_domain p ≡ b → (c : Bool) → leb k last_tracker ≡ c → (u : Option ℕ) → usable_slot t ≡ u
          → used_of (insert_of t p d k).after ≡ used_of t + accepted (insert_of t p d k).result.answer 1
      go true e true l (Some s) f =
          let q = lowest_free t.nums t.map h.slots s f in
          rw (insert-done t p d k s h ((says_t (position_in_domain p)).yes e) (leb-true k last_tracker l) f) (put-used t h s q.0 q.1 p d k ∙ more t h s q.0 q.1 p d k)
      go true e true l None f = rw (insert_full t p d k h ((says_t (position_in_domain p)).yes e) (leb-true k last_tracker l) f) (omega arith)
      go true e false l u f = rw (insert_untracked t p d k h ((says_t (position_in_domain p)).yes e) (leb-false k last_tracker l)) (omega arith)
      go false e c l u f = rw (insert_outside t p d k h (λ i. apart (sym e ∙ (says_t (position_in_domain p)).no i))) (omega arith)

  taken-used : (g : Handle) (k : ℕ) → used_of (remove_maintain_of t g k).after + accepted (remove_maintain_of t g k).result.answer 1 ≡ used_of t
  taken-used g k =
      let a = (holds_says t).no h in
      let why = own_refusal t.nums g k in
      ⊎_elim
      (λ z. let o = own-passed t.nums g k z in rw (ap (λ w. w.result.answer) (remove-done t g k a o)) (remove-count t g k h o))
      (λ n. rw (remove-refused t g k a n, ne_eqb why 0 n) (omega arith))
      (d_eq why 0)

  cleared-used : (ps : List (List Float)) (os : List (List ℕ)) → used_of (clear_of t ps os).after + accepted (clear_of t ps os).result.returned.answer (clear_of t ps os).result.returned.count ≡ used_of t
  cleared-used ps os =
      by_test (eqb (clear_of t ps os).result.returned.answer 0)
      (λ e. rw e (omega (arith, clear_empty t ps os h (eqb-true _ _ e), clear-counts t ps os h)))
      (λ e. rw e (omega (arith, ap (λ w. used_of w.after) (clear-refused t ps os (eqb-false _ _ e)))))

  -- ---- one call
  pub one-length : (o : Op) → used_of (after t o) + objects_taken_out t o ≡ used_of t + put_in t o
  unfolding after objects_taken_out put_in
  one-length (insert p d k) = omega (arith, insert-used p d k)
  one-length (set_position g p k) = omega (arith, set-used t g p k)
  one-length (remove g k) = omega (arith, remove-used t g k)
  one-length (batch ks hs ps out) = omega (arith, batch-used t ks hs ps out)
  one-length maintain = omega (arith, maintain-length t h)
  one-length (remove_maintain g k) = omega (arith, taken-used g k)
  one-length (clear ps os) = omega (arith, cleared-used ps os)

-- ---- and any history
pub all_length : (t : Tables) (os : List Op) → Holds t → used_of (after_all t os) + all_out t os ≡ used_of t + all_in t os
unfolding after_all all_out all_in
all_length t [] h = omega arith
all_length t (o ∷ os) h = omega (arith, one-length t h o, all_length (after t o) os (after_holds t o h))

-- an accepted `new` leaves no entry in use
none_yet : (t : Tables) (size : ℕ) → (new_of t size).result ≡ 0 → used_of (new_of t size).after ≡ 0
unfolding new_of built
none_yet t size z = by_test (eqb (new_answer t size) 0) (λ e. rw e) (λ e. absurd (eqb-false (new_answer t size) 0 e (rw e at z)))

-- since building, on tables of any content that `new` accepts: `len` answers 0 with the accepted inserts less the objects taken out
module _ (t : Tables) (size : ℕ) (accepts : (new_of t size).result ≡ 0) where
  abbrev fresh : Tables
  fresh = (new_of t size).after

  pub len_since_new : (os : List Op) → ((len_of (after_all fresh os)).answer ≡ 0) × ((len_of (after_all fresh os)).count + all_out fresh os ≡ all_in fresh os)
  len_since_new os =
      let h = new-holds t size accepts in
      let k = all_hold fresh os h in
      let e = len_0 (after_all fresh os) ((holds_says (after_all fresh os)).no k) in
      let n : (len_of (after_all fresh os)).count ≡ used_of (after_all fresh os) = ap (λ c. c.count) (sym e) ∙ len-used (after_all fresh os) k in
      (ap (λ c. c.answer) (sym e), omega (arith, n, all_length fresh os h, none_yet t size accepts))
