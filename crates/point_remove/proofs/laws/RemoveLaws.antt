-- `remove_maintain`: exactly when each answer is given, what it then leaves, that its handle is good no more, and that tables that hold a
-- grid still do after it. Assumes nothing.
use Rattle.basics.specs.Words.{ℕ, ◌+◌, ◌<◌, ◌≤◌, ◌≡◌, refl, sym, ◌∙◌, ap, Bool, true, false, ⊎_elim, eqb, arith, ne_eqb}
use Rattle.basics.proofs.laws.Says.{d_eq}
use Rattle.basics.specs.Meaning.Refusals.{pick, or_else}
use Rattle.slots.specs.declared.Handle.{Handle}
use Rattle.slots.specs.Meaning.Slot.{good, gone, why_not_good}
use Rattle.slots.proofs.laws.HandleLaws.{good_says, why_some, emptied_not_good}
use Rattle.slots.proofs.laws.GoneLaws.{emptied-gone}
use Rattle.point_records.specs.Meaning.Word.{tracker_at}
use Rattle.point_records.specs.Meaning.Trackers.{last_tracker}
use Rattle.point_records.proofs.laws.OwnLaws.{Own, own_refusal, own-passed, own-zero, own_13, own_bad, own_14}
use Rattle.point_tables.specs.Meaning.Tables.{Tables, used_of, record_on}
use Rattle.point_tables.specs.Meaning.Holds.{Holds}
use Rattle.point_tables.specs.Meaning.Decide.{holds, holds_says}
use Rattle.point_tables.specs.Meaning.Outcome.{Outcome, outcome}
use Rattle.replies.specs.declared.Reply.{Reply}
use Rattle.point_remove.specs.Meaning.RemoveMaintain.{taken_out, remove_maintain_of}
use Rattle.point_remove.proofs.laws.RemoveKeeps.{taken_keeps, taken-count}
use Rattle.replies.specs.Meaning.Replies.{reply}

-- the handle is that of an object
abbrev pub is_good : Tables → Handle → Bool
is_good t h = good t.nums h.slot h.version

module _ (t : Tables) (h : Handle) (k : ℕ) where
  -- why a call that names tracker k is refused on tables that hold a grid
  abbrev why : ℕ
  why = own_refusal t.nums h k

  -- the outcome by the check and the other tests
  abbrev remove_by : Bool → ℕ → Outcome Reply
  remove_by a w =
      pick (eqb (or_else a 3 w) 0)
      (outcome (reply 0 (record_on t h.slot).obj) (taken_out t h.slot))
      (outcome (reply (or_else a 3 w) 0) t)

  by_tests_lem : remove_maintain_of t h k ≡ remove_by (holds t) why
  unfolding remove_maintain_of
  by_tests_lem = refl

  -- ---- exactly when each answer is given
  pub remove_unheld : holds t ≡ false → remove_maintain_of t h k ≡ outcome (reply 3 0) t
  remove_unheld e = by_tests_lem ∙ rw e

  pub remove-refused : holds t ≡ true → (why ≡ 0 → ⊥) → remove_maintain_of t h k ≡ outcome (reply why 0) t
  remove-refused e n = by_tests_lem ∙ rw (e, ne_eqb why 0 n)

  -- a refusal by its number
  refused_by : (n : ℕ) → holds t ≡ true → why ≡ n → (n ≡ 0 → ⊥) → remove_maintain_of t h k ≡ outcome (reply n 0) t
  refused_by n e q z = remove-refused e (λ w. z (sym q ∙ w)) ∙ ap (λ (a : ℕ). outcome (reply a 0) t) q

  pub remove_untracked : holds t ≡ true → last_tracker < k → remove_maintain_of t h k ≡ outcome (reply 13 0) t
  remove_untracked e l = refused_by 13 e (own_13 t.nums h k l) (λ q. omega arith)

  pub remove_lost : holds t ≡ true → k ≤ last_tracker → is_good t h ≡ false → remove_maintain_of t h k ≡ outcome (reply (why_not_good t.nums h) 0) t
  remove_lost e l f = refused_by (why_not_good t.nums h) e (own_bad t.nums h k l f) (why_some t.nums h)

  -- whatever the object's state is
  pub other_tracker-refused : Holds t → is_good t h ≡ true → k ≤ last_tracker → (tracker_at t.nums h.slot ≡ k → ⊥) → remove_maintain_of t h k ≡ outcome (reply 14 0) t
  other_tracker-refused a g l n = refused_by 14 ((holds_says t).no a) (own_14 t.nums h k l g n) (λ q. omega arith)

  pub remove-done : holds t ≡ true → Own t.nums h k → remove_maintain_of t h k ≡ outcome (reply 0 (record_on t h.slot).obj) (taken_out t h.slot)
  remove-done e o = by_tests_lem ∙ rw (e, own-zero t.nums h k o)

  -- tables that hold a grid still do
  pub remove-holds : Holds t → Holds (remove_maintain_of t h k).after
  remove-holds a = ⊎_elim taken (λ n. rw (remove-refused ((holds_says t).no a) n) a) (d_eq why 0)
    where
      taken : why ≡ 0 → Holds (remove_maintain_of t h k).after
      taken z =
          let o = own-passed t.nums h k z in
          let n = (good_says t.nums h.slot h.version).yes o.is_good_lem in
          rw (remove-done ((holds_says t).no a) o) (taken_keeps t a h.slot n.0 n.1)

  -- ---- accepted: the handle is good no more, and there is one entry less
  module _ (a : Holds t) (o : Own t.nums h k) where
    accepted : (remove_maintain_of t h k).after ≡ taken_out t h.slot
    accepted = ap (λ (w : Outcome Reply). w.after) (remove-done ((holds_says t).no a) o)

    pub remove-count : used_of (remove_maintain_of t h k).after + 1 ≡ used_of t
    remove-count =
        let n = (good_says t.nums h.slot h.version).yes o.is_good_lem in
        rw accepted (taken-count t a h.slot n.0 n.1)

    -- good at no version
    pub remove_not_good : (v : ℕ) → good (remove_maintain_of t h k).after.nums h.slot v ≡ false
    unfolding taken_out
    remove_not_good v = rw accepted (emptied_not_good t.nums h.slot v)

    -- and gone, at the last version too
    pub remove-gone : gone (remove_maintain_of t h k).after.nums h.slot h.version ≡ true
    unfolding taken_out
    remove-gone =
        let n = (good_says t.nums h.slot h.version).yes o.is_good_lem in
        rw accepted (emptied-gone t.nums h.slot h.version o.is_good_lem (omega (arith, n.2, (a.slots.each h.slot n.0).versioned)))
