-- `remove`: exactly when each answer is given, what it then leaves, that its handle is good no more, and that tables that hold a grid still
-- do after it. Assumes nothing.
use Rattle.basics.specs.Words.{ℕ, ◌+◌, ◌<◌, ◌≡◌, refl, ◌∙◌, ap, Bool, true, false, eqb, arith, ne_eqb}
use Rattle.basics.specs.Meaning.Refusals.{pick, or_else}
use Rattle.slots.specs.declared.Handle.{Handle}
use Rattle.slots.specs.Meaning.Slot.{live, phase_at, version_at, good, gone, why_not_good}
use Rattle.slots.proofs.laws.HandleLaws.{good_says, why_some, emptied_not_good}
use Rattle.slots.proofs.laws.GoneLaws.{emptied-gone}
use Rattle.box_tables.specs.Meaning.Tables.{Tables, slots_of, obj_on}
use Rattle.box_tables.specs.Meaning.Holds.{Holds}
use Rattle.box_tables.specs.Meaning.Decide.{holds, holds_says}
use Rattle.box_tables.specs.Meaning.Outcome.{Outcome, outcome}
use Rattle.box_insert.proofs.laws.LiveLaws.{live_count, live_less}
use Rattle.replies.specs.declared.Reply.{Reply}
use Rattle.box_remove.specs.Meaning.Remove.{taken_out, remove_answer, remove_of}
use Rattle.box_remove.proofs.laws.RemoveKeeps.{taken-row, taken_keeps}
use Rattle.replies.specs.Meaning.Replies.{reply}

-- the handle is that of an object
abbrev pub is_good : Tables → Handle → Bool
is_good t h = good t.nums h.slot h.version

pub record Names (t : Tables) (h : Handle) : Type 0 where
  pub inside : h.slot < slots_of t
  pub occupied : phase_at t.nums h.slot ≡ live
  pub version : version_at t.nums h.slot ≡ h.version

pub names : (t : Tables) (h : Handle) → is_good t h ≡ true → Names t h
names t h e = let g = (good_says t.nums h.slot h.version).yes e in record { inside = g.0; occupied = g.1; version = g.2 }

module _ (t : Tables) (h : Handle) where
  -- the outcome by the two tests
  abbrev remove_by : Bool → Bool → Outcome Reply
  remove_by a b =
      pick (eqb (or_else a 3 (or_else b (why_not_good t.nums h) 0)) 0)
      (outcome (reply 0 (obj_on t h.slot)) (taken_out t h.slot))
      (outcome (reply (or_else a 3 (or_else b (why_not_good t.nums h) 0)) 0) t)

  by_tests_lem : remove_of t h ≡ remove_by (holds t) (is_good t h)
  unfolding remove_of remove_answer
  by_tests_lem = refl

  -- ---- exactly when each answer is given
  pub remove-done : holds t ≡ true → is_good t h ≡ true → remove_of t h ≡ outcome (reply 0 (obj_on t h.slot)) (taken_out t h.slot)
  remove-done e f = by_tests_lem ∙ rw (e, f)

  -- ---- accepted or not: what holds of both holds of the outcome
  pub remove_cases : (P : Outcome Reply → Type 0) → (Names t h → P (outcome (reply 0 (obj_on t h.slot)) (taken_out t h.slot))) → ((a : ℕ) → (a ≡ 0 → ⊥) → P (outcome (reply a 0) t)) → P (remove_of t h)
  remove_cases P accept refuse = rw by_tests_lem (go (holds t) (is_good t h) (names t h))
    where
      go : (a b : Bool) → (b ≡ true → Names t h) → P (remove_by a b)
      go false b g = refuse 3 (λ e. omega arith)
      go true false g =
          let z = why_some t.nums h in
          rw (ne_eqb (why_not_good t.nums h) 0 z) (refuse (why_not_good t.nums h) z)
      go true true g = accept (g refl)

  -- tables that hold a grid still do
  pub remove-holds : Holds t → Holds (remove_of t h).after
  remove-holds k = remove_cases (λ o. Holds o.after) (λ g. taken_keeps t k h.slot g.inside g.occupied) (λ a z. k)

  -- an accepted removal makes one slot less live, any other none
  pub remove-live : live_count (remove_of t h).after + pick (eqb (remove_of t h).result.answer 0) 1 0 ≡ live_count t
  remove-live =
      remove_cases (λ o. live_count o.after + pick (eqb o.result.answer 0) 1 0 ≡ live_count t)
      (λ g. let r = taken-row t h.slot in live_less t h.slot g.inside g.occupied r.0 r.1 (taken_out t h.slot) r.2)
      (λ a z. rw (ne_eqb a 0 z) (omega arith))

  -- ---- accepted: the handle is good no more
  module _ (k : Holds t) (g : is_good t h ≡ true) where
    accepted : (remove_of t h).after ≡ taken_out t h.slot
    accepted = ap (λ (o : Outcome Reply). o.after) (remove-done ((holds_says t).no k) g)

    -- good at no version
    pub remove_not_good : (v : ℕ) → good (remove_of t h).after.nums h.slot v ≡ false
    unfolding taken_out
    remove_not_good v = rw accepted (emptied_not_good t.nums h.slot v)

    -- and gone, at the last version too
    pub remove-gone : gone (remove_of t h).after.nums h.slot h.version ≡ true
    unfolding taken_out
    remove-gone =
        let n = (good_says t.nums h.slot h.version).yes g in
        rw accepted (emptied-gone t.nums h.slot h.version g (omega (arith, n.2, (k.slots.each h.slot n.0).versioned)))
