-- Every call that changes the tables of a point grid, and so every history, lets each slot go onward; and a handle that an accepted insert
-- returns is good. Assumes nothing.
use Rattle.basics.specs.Words.{ℕ, ◌<◌, ◌≡◌, refl, Bool, true, false, List, [], ◌∷◌, length, length-set, get_or-set_same, eqb, leb, arith, eqb-true, eqb-false}
use lib.Ieee.{Float}
use Rattle.basics.specs.Meaning.Refusals.{or_else, first_of}
use Rattle.geometry.specs.declared.Position.{Position}
use Rattle.geometry.specs.Meaning.Domain.{position_in_domain}
use Rattle.slots.specs.declared.Handle.{Handle}
use Rattle.std.specs.Prelude.{None, Option, Some}
use Rattle.slots.specs.Meaning.Map.{is_some, slot_in}
use Rattle.slots.specs.Meaning.Slot.{free, phase_at, good}
use Rattle.slots.proofs.laws.HandleLaws.{good_says}
use Rattle.slots.proofs.laws.SlotLaws.{lowest_free}
use Rattle.slots.proofs.laws.OnwardLaws.{Onward, onward-none, onward_then, onward-same, onward-taken, onward-emptied}
use Rattle.slot_walks.proofs.laws.ClearedLaws.{onward-cleared}
use Rattle.storage.proofs.laws.FilterLaws.{by_test}
use Rattle.point_records.specs.Meaning.Trackers.{last_tracker}
use Rattle.point_tables.specs.Meaning.Tables.{Tables}
use Rattle.point_tables.specs.Meaning.Decide.{holds, holds_says}
use Rattle.point_insert.specs.Meaning.Insert.{usable_slot, put, insert_tests, insert_of}
use Rattle.point_deferred.specs.Meaning.Moves.{pended, set_position_answer, set_position_of, remove_answer, remove_of}
use Rattle.point_deferred.specs.Meaning.Calls.{Call, call_of, tables_after}
use Rattle.point_batch.specs.Meaning.Batch.{calls_of, batch_answer, batch_of}
use Rattle.point_remove.specs.Meaning.RemoveMaintain.{taken_out, remove_maintain_tests, remove_maintain_of}
use Rattle.point_clear.specs.Meaning.Clear.{cleared, clear_tests, clear_of}
use Rattle.point_maintain.proofs.laws.OnwardLaws.{maintain-onward}
use Rattle.point_histories.specs.Inner.History.{Op, insert, set_position, remove, batch, maintain, remove_maintain, clear, after}

-- ---- the deferred calls touch no version and no phase
set-onward : (t : Tables) (g : Handle) (p : Position) (k : ℕ) → Onward t.nums (set_position_of t g p k).after.nums
unfolding set_position_of pended
set-onward t g p k = by_test (eqb (set_position_answer t g p k) 0) (λ e. rw e (onward-same t.nums g.slot _ refl refl)) (λ e. rw e (onward-none t.nums))

remove-onward : (t : Tables) (g : Handle) (k : ℕ) → Onward t.nums (remove_of t g k).after.nums
unfolding remove_of pended
remove-onward t g k = by_test (eqb (remove_answer t g k) 0) (λ e. rw e (onward-same t.nums g.slot _ refl refl)) (λ e. rw e (onward-none t.nums))

call-onward : (t : Tables) (c : Call) → Onward t.nums (call_of t c).after.nums
unfolding call_of
call-onward t c = by_test (eqb c.kind 0) (λ e. rw e (set-onward t c.handle c.at c.tracker)) (λ e. rw e (remove-onward t c.handle c.tracker))

pub calls_onward : (t : Tables) (cs : List Call) → Onward t.nums (tables_after t cs).nums
unfolding tables_after
calls_onward t [] = onward-none t.nums
calls_onward t (c ∷ cs) = onward_then (call-onward t c) (calls_onward (call_of t c).after cs)

batch-onward : (t : Tables) (ks : List ℕ) (hs : List (List ℕ)) (ps : List (List Float)) (out : List (List ℕ)) → Onward t.nums (batch_of t ks hs ps out).after.nums
unfolding batch_of
batch-onward t ks hs ps out =
    by_test (eqb (batch_answer t ks hs ps out) 0) (λ e. rw e (calls_onward t (calls_of ks hs ps))) (λ e. rw e (onward-none t.nums))

-- ---- an insert takes a free slot, at its version
module _ (t : Tables) (p : Position) (d k : ℕ) where
  abbrev pub taken : ℕ
  taken = slot_in (usable_slot t)

  -- where no test refuses
  pub took : first_of (insert_tests t p k) ≡ 0 → (taken < length t.nums) × (phase_at t.nums taken ≡ free)
  took = go (holds t) (position_in_domain p) (leb k last_tracker) (usable_slot t) refl refl
    where
      go :
          (a b c : Bool) (u : Option ℕ) → holds t ≡ a → usable_slot t ≡ u → or_else a 3 (or_else b 6 (or_else c 13 (or_else (is_some u) 4 0))) ≡ 0
          → (slot_in u < length t.nums) × (phase_at t.nums (slot_in u) ≡ free)
      go false b c u e f z = absurd (omega arith)
      go true false c u e f z = absurd (omega arith)
      go true true false u e f z = absurd (omega arith)
      go true true true None e f z = absurd (omega arith)
      go true true true (Some s) e f z = lowest_free t.nums t.map ((holds_says t).yes e).slots s f

  insert-onward : Onward t.nums (insert_of t p d k).after.nums
  unfolding insert_of put
  insert-onward =
      by_test (eqb (first_of (insert_tests t p k)) 0)
      (λ e. rw e (onward-taken t.nums taken _ (took (eqb-true _ _ e)).1 refl))
      (λ e. rw e (onward-none t.nums))

  -- and the handle that it returns is good
  pub insert-good :
      (insert_of t p d k).result.answer ≡ 0
      → good (insert_of t p d k).after.nums (insert_of t p d k).result.handle.slot (insert_of t p d k).result.handle.version ≡ true
  unfolding insert_of put
  insert-good z =
      by_test (eqb (first_of (insert_tests t p k)) 0)
      (λ e.
      let q = took (eqb-true _ _ e) in
      rw e ((good_says _ taken _).no (rw length-set q.0, (rw (get_or-set_same t.nums taken _ [] q.0)), (rw (get_or-set_same t.nums taken _ [] q.0)))))
      (λ e. absurd (eqb-false (first_of (insert_tests t p k)) 0 e (rw e at z)))

-- ---- the calls that take objects out
taken-onward : (t : Tables) (g : Handle) (k : ℕ) → Onward t.nums (remove_maintain_of t g k).after.nums
unfolding remove_maintain_of taken_out
taken-onward t g k =
    by_test (eqb (first_of (remove_maintain_tests t g k)) 0) (λ e. rw e (onward-emptied t.nums g.slot)) (λ e. rw e (onward-none t.nums))

clear-onward : (t : Tables) (ps : List (List Float)) (os : List (List ℕ)) → Onward t.nums (clear_of t ps os).after.nums
unfolding clear_of cleared
clear-onward t ps os = by_test (eqb (first_of (clear_tests t ps os)) 0) (λ e. rw e (onward-cleared t.nums)) (λ e. rw e (onward-none t.nums))

-- ---- one call, whatever the tables are
pub after-onward : (t : Tables) (o : Op) → Onward t.nums (after t o).nums
unfolding after
after-onward t (insert p d k) = insert-onward t p d k
after-onward t (set_position g p k) = set-onward t g p k
after-onward t (remove g k) = remove-onward t g k
after-onward t (batch ks hs ps out) = batch-onward t ks hs ps out
after-onward t maintain = maintain-onward t
after-onward t (remove_maintain g k) = taken-onward t g k
after-onward t (clear ps os) = clear-onward t ps os
