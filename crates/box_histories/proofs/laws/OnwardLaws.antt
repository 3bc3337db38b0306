-- Every call that changes the tables of a box grid lets each slot go onward; and a handle that an accepted insert returns is good.
-- Assumes nothing.
use Rattle.basics.specs.Words.{ℕ, ◌<◌, ◌≡◌, refl, Bool, true, false, List, [], length, length-set, get_or-set_same, eqb, arith, eqb-true, eqb-false}
use lib.Ieee.{Float}
use Rattle.basics.specs.Meaning.Refusals.{or_else, first_of}
use Rattle.geometry.specs.declared.Aabb.{Aabb}
use Rattle.geometry.specs.Meaning.Domain.{aabb_in_domain}
use Rattle.slots.specs.declared.Handle.{Handle}
use Rattle.std.specs.Prelude.{None, Option, Some}
use Rattle.slots.specs.Meaning.Map.{is_some, slot_in}
use Rattle.slots.specs.Meaning.Slot.{free, phase_at, good}
use Rattle.slots.proofs.laws.HandleLaws.{good_says}
use Rattle.slots.proofs.laws.SlotLaws.{lowest_free}
use Rattle.slots.proofs.laws.OnwardLaws.{Onward, onward-none, onward-taken, onward-emptied}
use Rattle.slot_walks.proofs.laws.ClearedLaws.{onward-cleared}
use Rattle.storage.proofs.laws.FilterLaws.{by_test}
use Rattle.box_tables.specs.Meaning.Tables.{Tables, size_of}
use Rattle.box_tables.specs.Meaning.Decide.{holds, holds_says}
use Rattle.box_insert.specs.Meaning.Insert.{usable_slot, put, few_cells, has_room, insert_tests, insert_of}
use Rattle.box_set.proofs.laws.SetAabbLaws.{set-nums}
use Rattle.box_remove.specs.Meaning.Remove.{taken_out, remove_tests, remove_of}
use Rattle.box_clear.specs.Meaning.Clear.{cleared, clear_tests, clear_of}
use Rattle.box_histories.specs.Inner.History.{Op, insert, set_aabb, remove, clear, after}

-- ---- an insert takes a free slot, at its version
module _ (t : Tables) (b : Aabb) where
  abbrev taken : ℕ
  taken = slot_in (usable_slot t)

  -- where no test refuses
  took : first_of (insert_tests t b) ≡ 0 → (taken < length t.nums) × (phase_at t.nums taken ≡ free)
  took = go (holds t) (aabb_in_domain b) (few_cells (size_of t) b) (usable_slot t) (has_room t b) refl refl
    where
      go : (a i f : Bool) (u : Option ℕ) (r : Bool) → holds t ≡ a → usable_slot t ≡ u → or_else a 3 (or_else i 6 (or_else f 7 (or_else (is_some u) 4 (or_else r 8 0)))) ≡ 0 → (slot_in u < length t.nums) × (phase_at t.nums (slot_in u) ≡ free)
      go false i f u r e q z = absurd (omega arith)
      go true false f u r e q z = absurd (omega arith)
      go true true false u r e q z = absurd (omega arith)
      go true true true None r e q z = absurd (omega arith)
      go true true true (Some s) r e q z = lowest_free t.nums t.map ((holds_says t).yes e).slots s q

  insert-onward : (d : ℕ) → Onward t.nums (insert_of t b d).after.nums
  unfolding insert_of put
  insert-onward d =
      by_test (eqb (first_of (insert_tests t b)) 0)
      (λ e. rw e (onward-taken t.nums taken _ (took (eqb-true _ _ e)).1 refl))
      (λ e. rw e (onward-none t.nums))

  -- and the handle that it returns is good
  pub insert-good : (d : ℕ) → (insert_of t b d).result.answer ≡ 0 → good (insert_of t b d).after.nums (insert_of t b d).result.handle.slot (insert_of t b d).result.handle.version ≡ true
  unfolding insert_of put
  insert-good d z =
      by_test (eqb (first_of (insert_tests t b)) 0)
      (λ e.
      let k = took (eqb-true _ _ e) in
      rw e ((good_says _ taken _).no (rw length-set k.0, (rw (get_or-set_same t.nums taken _ [] k.0)), (rw (get_or-set_same t.nums taken _ [] k.0)))))
      (λ e. absurd (eqb-false (first_of (insert_tests t b)) 0 e (rw e at z)))

-- ---- the calls that take objects out
taken-onward : (t : Tables) (g : Handle) → Onward t.nums (remove_of t g).after.nums
unfolding remove_of taken_out
taken-onward t g =
    by_test (eqb (first_of (remove_tests t g)) 0) (λ e. rw e (onward-emptied t.nums g.slot)) (λ e. rw e (onward-none t.nums))

clear-onward : (t : Tables) (bs : List (List Float)) (os : List ℕ) → Onward t.nums (clear_of t bs os).after.nums
unfolding clear_of cleared
clear-onward t bs os = by_test (eqb (first_of (clear_tests t bs os)) 0) (λ e. rw e (onward-cleared t.nums)) (λ e. rw e (onward-none t.nums))

-- ---- one call, whatever the tables are
pub after-onward : (t : Tables) (o : Op) → Onward t.nums (after t o).nums
unfolding after
after-onward t (insert b d) = insert-onward t b d
after-onward t (set_aabb g b) = rw (set-nums t g b) (onward-none t.nums)
after-onward t (remove g) = taken-onward t g
after-onward t (clear bs os) = clear-onward t bs os
