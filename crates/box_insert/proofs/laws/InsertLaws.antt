-- `insert`: exactly when each answer is given, what it then leaves, and that tables that hold a grid still do after it. Assumes nothing.
use Rattle.basics.specs.Words.{ℕ, ◌+◌, ◌≤◌, ◌≡◌, refl, ◌∙◌, Bool, true, false, [], ◌∷◌, length, T, eqb, arith, leb-true, le-leb, ne_eqb}
use Rattle.basics.specs.Meaning.Limits.{most_cells}
use Rattle.basics.specs.Meaning.Says.{Says}
use Rattle.basics.proofs.laws.Says.{says_t, not_said}
use Rattle.basics.specs.Meaning.Refusals.{pick}
use Rattle.geometry.specs.Meaning.Domain.{aabb_in_domain}
use Rattle.geometry.specs.declared.Aabb.{Aabb}
use Rattle.std.specs.Prelude.{Option, None, Some}
use Rattle.slots.specs.Meaning.Map.{slot_in}
use Rattle.slots.specs.Meaning.Slot.{live, version_at}
use Rattle.slots.proofs.laws.SlotLaws.{lowest_free}
use Rattle.box_tables.specs.Meaning.Tables.{Tables, size_of, used_of, covers}
use Rattle.box_tables.specs.Meaning.Holds.{Holds}
use Rattle.box_tables.specs.Meaning.Decide.{holds, holds_says}
use Rattle.box_tables.specs.Meaning.Outcome.{Outcome, outcome}
use Rattle.replies.specs.declared.Inserted.{Inserted}
use Rattle.box_insert.specs.Meaning.Insert.{usable_slot, put, few_cells, has_room, insert_answer, insert_of}
use Rattle.box_insert.specs.Inner.Insert.{answer_by}
use Rattle.box_insert.proofs.laws.LiveLaws.{live_count, live_more}
use Rattle.box_insert.proofs.laws.InsertKeeps.{put_keeps}
use Rattle.replies.specs.Meaning.Replies.{inserted}

module _ (t : Tables) (b : Aabb) where
  -- the pool has room for the entries in use and those of the box
  abbrev pub Room : Type 0
  Room = used_of t + covers (size_of t) b ≤ length t.pool

  abbrev pub Few : Type 0
  Few = covers (size_of t) b ≤ most_cells

  pub few_says : Says (few_cells (size_of t) b) Few
  few_says = record { yes = leb-true _ _; no = le-leb _ _ }

  pub room_says : Says (has_room t b) Room
  room_says = record { yes = leb-true _ _; no = le-leb _ _ }

module _ (t : Tables) (b : Aabb) (d : ℕ) where
  -- the outcome by the tests
  abbrev insert_by : Bool → Bool → Bool → Option ℕ → Bool → Outcome Inserted
  insert_by h i f u r =
      pick (eqb (answer_by h i f u r) 0)
      (outcome (inserted 0 (slot_in u) (version_at t.nums (slot_in u))) (put t (slot_in u) b d))
      (outcome (inserted (answer_by h i f u r) 0 0) t)

  by_tests_lem : insert_of t b d ≡ insert_by (holds t) (aabb_in_domain b) (few_cells (size_of t) b) (usable_slot t) (has_room t b)
  unfolding insert_of insert_answer
  by_tests_lem = refl

  -- ---- exactly when each answer is given
  pub insert-done : (s : ℕ) → Holds t → T (aabb_in_domain b) → Few t b → usable_slot t ≡ Some s → Room t b → insert_of t b d ≡ outcome (inserted 0 s (version_at t.nums s)) (put t s b d)
  insert-done s h i f e r = by_tests_lem ∙ rw ((holds_says t).no h, (says_t (aabb_in_domain b)).no i, (few_says t b).no f, e, (room_says t b).no r)

  -- entries in use plus the box's exceed the pool
  pub insert_crowded : (s : ℕ) → Holds t → T (aabb_in_domain b) → Few t b → usable_slot t ≡ Some s → (Room t b → ⊥) → insert_of t b d ≡ outcome (inserted 8 0 0) t
  insert_crowded s h i f e r = by_tests_lem ∙ rw ((holds_says t).no h, (says_t (aabb_in_domain b)).no i, (few_says t b).no f, e, not_said (room_says t b) r)

  -- ---- accepted or not: what holds of both holds of the outcome
  pub insert_cases : (P : Outcome Inserted → Type 0)
      → ((s : ℕ) → holds t ≡ true → T (aabb_in_domain b) → Few t b → usable_slot t ≡ Some s → Room t b → P (outcome (inserted 0 s (version_at t.nums s)) (put t s b d)))
      → ((a : ℕ) → (a ≡ 0 → ⊥) → P (outcome (inserted a 0 0) t)) → P (insert_of t b d)
  insert_cases P accept refuse = rw by_tests_lem (go (holds t) (aabb_in_domain b) (few_cells (size_of t) b) (usable_slot t) (has_room t b) refl (says_t (aabb_in_domain b)).yes (few_says t b).yes refl (room_says t b).yes)
    where
      go : (h i f : Bool) (u : Option ℕ) (r : Bool) → holds t ≡ h → (i ≡ true → T (aabb_in_domain b)) → (f ≡ true → Few t b) → usable_slot t ≡ u → (r ≡ true → Room t b) → P (insert_by h i f u r)
      go false i f u r eh ei ef eu er = refuse 3 (λ e. omega arith)
      go true false f u r eh ei ef eu er = refuse 6 (λ e. omega arith)
      go true true false u r eh ei ef eu er = refuse 7 (λ e. omega arith)
      go true true true None r eh ei ef eu er = refuse 4 (λ e. omega arith)
      go true true true (Some s) false eh ei ef eu er = refuse 8 (λ e. omega arith)
      go true true true (Some s) true eh ei ef eu er = accept s eh (ei refl) (ef refl) eu (er refl)

  -- tables that hold a grid still do
  pub insert-holds : Holds t → Holds (insert_of t b d).after
  insert-holds h =
      insert_cases (λ o. Holds o.after)
      (λ s eh i f e r. let p = lowest_free t.nums t.map h.slots s e in put_keeps t h s p.0 p.1 b d i f r)
      (λ a z. h)

  -- an accepted insert makes one slot more live, any other none
  pub insert-count : Holds t → live_count (insert_of t b d).after ≡ live_count t + pick (eqb (insert_of t b d).result.answer 0) 1 0
  insert-count h =
      insert_cases (λ o. live_count o.after ≡ live_count t + pick (eqb o.result.answer 0) 1 0)
      (λ s eh i f e r. let p = lowest_free t.nums t.map h.slots s e in live_more t s p.0 (λ q. omega (arith, p.1)) (version_at t.nums s ∷ live ∷ d ∷ 0 ∷ []) refl (put t s b d) (unfold put in refl))
      (λ a z. rw (ne_eqb a 0 z) (omega arith))
