-- No call changes the tracker of an object: a handle that is good before a call and after it is that of an object of the same tracker. Assumes nothing.
use Rattle.basics.specs.Words.{ℕ, ◌≡◌, refl, sym, ap, ◌∙◌, Bool, true, false, ◌||◌, List, [], ◌∷◌, ⊎_elim, eqb, get_or-set_other, arith, eqb-true}
use lib.Ieee.{Float}
use Rattle.basics.specs.Meaning.Refusals.{first_of}
use Rattle.basics.proofs.laws.Says.{apart, d_eq}
use Rattle.geometry.specs.declared.Position.{Position}
use Rattle.slots.specs.declared.Handle.{Handle}
use Rattle.slots.specs.Meaning.Slot.{phase_at, good, gone}
use Rattle.slots.proofs.laws.HandleLaws.{good_says, emptied_not_good}
use Rattle.slots.proofs.laws.EmptyLaws.{emptied_other}
use Rattle.slots.proofs.laws.GoneLaws.{good_not_gone}
use Rattle.slots.proofs.laws.OnwardLaws.{Lasting}
use Rattle.slot_walks.proofs.laws.ClearedLaws.{cleared_not_good}
use Rattle.storage.proofs.laws.FilterLaws.{by_test}
use Rattle.point_records.specs.Meaning.Word.{tracker_in, tracker_at}
use Rattle.point_tables.specs.Meaning.Tables.{Tables}
use Rattle.point_insert.specs.Meaning.Insert.{put, insert_tests, insert_of}
use Rattle.point_deferred.specs.Meaning.Moves.{set_position_answer, set_position_of, remove_answer, remove_of}
use Rattle.point_deferred.specs.Meaning.Calls.{Call, call_of, tables_after}
use Rattle.point_deferred.proofs.laws.MovesLaws.{set-accepted, set-done, set-refused, remove-accepted, remove-done, remove-refused}
use Rattle.point_deferred.proofs.laws.ReadyLaws.{holds_ready}
use Rattle.point_deferred.proofs.laws.TrackerLaws.{tracker-kept}
use Rattle.point_batch.specs.Meaning.Batch.{calls_of, batch_answer, batch_of}
use Rattle.point_remove.specs.Meaning.RemoveMaintain.{taken_out, remove_maintain_tests, remove_maintain_of}
use Rattle.point_clear.specs.Meaning.Clear.{cleared, clear_tests, clear_of}
use Rattle.point_maintain.proofs.laws.MaintainLaws.{maintain-tracker}
use Rattle.point_histories.specs.Inner.History.{Op, insert, set_position, remove, batch, maintain, remove_maintain, clear, after}
use Rattle.point_histories.proofs.laws.OnwardLaws.{taken, took}

-- ---- the deferred calls leave every slot its tracker
module _ (t : Tables) (s : ℕ) where
  set-tracker : (g : Handle) (p : Position) (k : ℕ) → tracker_at (set_position_of t g p k).after.nums s ≡ tracker_at t.nums s
  set-tracker g p k =
      ⊎_elim
      (λ e. let a = set-accepted t g p k e in rw (set-done t g p k e) (tracker-kept t g.slot _ (holds_ready t a.held) a.names.inside s))
      (λ n. rw (set-refused t g p k n))
      (d_eq (set_position_answer t g p k) 0)

  remove-tracker : (g : Handle) (k : ℕ) → tracker_at (remove_of t g k).after.nums s ≡ tracker_at t.nums s
  remove-tracker g k =
      ⊎_elim
      (λ e. let a = remove-accepted t g k e in rw (remove-done t g k e) (tracker-kept t g.slot _ (holds_ready t a.held) a.names.inside s))
      (λ n. rw (remove-refused t g k n))
      (d_eq (remove_answer t g k) 0)

  call-tracker : (c : Call) → tracker_at (call_of t c).after.nums s ≡ tracker_at t.nums s
  unfolding call_of
  call-tracker c =
      by_test (eqb c.kind 0) (λ e. rw e (set-tracker c.handle c.at c.tracker)) (λ e. rw e (remove-tracker c.handle c.tracker))

calls_tracker : (t : Tables) (s : ℕ) (cs : List Call) → tracker_at (tables_after t cs).nums s ≡ tracker_at t.nums s
unfolding tables_after
calls_tracker t s [] = refl
calls_tracker t s (c ∷ cs) = calls_tracker (call_of t c).after s cs ∙ call-tracker t s c

batch-tracker : (t : Tables) (s : ℕ) (ks : List ℕ) (hs : List (List ℕ)) (ps : List (List Float)) (out : List (List ℕ)) → tracker_at (batch_of t ks hs ps out).after.nums s ≡ tracker_at t.nums s
unfolding batch_of
batch-tracker t s ks hs ps out = by_test (eqb (batch_answer t ks hs ps out) 0) (λ e. rw e (calls_tracker t s (calls_of ks hs ps))) (λ e. rw e)

-- ---- the others: a handle that is good before a call and after it
module _ (t : Tables) (s v : ℕ) (before : good t.nums s v ≡ true) where
  -- an insert takes a slot that is free, so another
  insert-tracker : (p : Position) (d k : ℕ) → tracker_at (insert_of t p d k).after.nums s ≡ tracker_at t.nums s
  unfolding insert_of put
  insert-tracker p d k =
      by_test (eqb (first_of (insert_tests t p k)) 0)
      (λ e. rw e (ap tracker_in (get_or-set_other t.nums (taken t p d k) s _ [] (another e))))
      (λ e. rw e)
    where
      another : eqb (first_of (insert_tests t p k)) 0 ≡ true → s ≡ taken t p d k → ⊥
      another e q = omega (arith, ((good_says t.nums s v).yes before).1, ap (phase_at t.nums) q, (took t p d k (eqb-true _ _ e)).1)

  -- a slot that is emptied has no good handle after
  taken-tracker : (g : Handle) (k : ℕ) → good (remove_maintain_of t g k).after.nums s v ≡ true → tracker_at (remove_maintain_of t g k).after.nums s ≡ tracker_at t.nums s
  unfolding remove_maintain_of taken_out
  taken-tracker g k =
      by_test (eqb (first_of (remove_maintain_tests t g k)) 0)
      (λ e. rw e (λ w. ap tracker_in (emptied_other t.nums g.slot s (λ q. apart (sym (emptied_not_good t.nums g.slot v) ∙ rw q at w)))))
      (λ e. rw e (λ w. refl))

  clear-tracker : (ps : List (List Float)) (os : List (List ℕ)) → good (clear_of t ps os).after.nums s v ≡ true → tracker_at (clear_of t ps os).after.nums s ≡ tracker_at t.nums s
  unfolding clear_of cleared
  clear-tracker ps os =
      by_test (eqb (first_of (clear_tests t ps os)) 0)
      (λ e. rw e (λ w. absurd (apart (sym (cleared_not_good t.nums s v) ∙ w))))
      (λ e. rw e (λ w. refl))

  pub one-tracker : (o : Op) → good (after t o).nums s v ≡ true → tracker_at (after t o).nums s ≡ tracker_at t.nums s
  unfolding after
  one-tracker (insert p d k) w = insert-tracker p d k
  one-tracker (set_position g p k) w = set-tracker t s g p k
  one-tracker (remove g k) w = remove-tracker t s g k
  one-tracker (batch ks hs ps out) w = batch-tracker t s ks hs ps out
  one-tracker maintain w = maintain-tracker t s
  one-tracker (remove_maintain g k) w = taken-tracker g k w
  one-tracker (clear ps os) w = clear-tracker ps os w

-- ---- a handle that is good in the end was good in between: one that is gone stays gone
pub good_between : (nums last : List (List ℕ)) (s v : ℕ) → Lasting nums last → (good nums s v || gone nums s v) ≡ true → good last s v ≡ true → good nums s v ≡ true
good_between nums last s v l i w = go (good nums s v) (gone nums s v) (l.gone-stays s v) i
  where
    go : (a b : Bool) → (b ≡ true → gone last s v ≡ true) → (a || b) ≡ true → a ≡ true
    go true b f e = refl
    go false b f e = absurd (apart (sym (good_not_gone last s v w) ∙ f e))
