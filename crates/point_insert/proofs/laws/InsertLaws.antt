-- `insert`: exactly when each answer is given, what it then leaves, and that tables that hold a grid still do after it. Assumes nothing.
use Rattle.basics.specs.Words.{ℕ, ◌<◌, ◌≤◌, ◌≡◌, refl, ◌∙◌, ap, Bool, true, false, [], eqb, leb, get_or-set_same, arith, le-leb, lt-leb, leb-true}
use Rattle.std.specs.Prelude.{Option, Some, None}
use Rattle.basics.proofs.laws.Says.{says_t, not_said}
use Rattle.basics.specs.Meaning.Refusals.{or_else, pick}
use Rattle.geometry.specs.Meaning.Domain.{position_in_domain}
use Rattle.geometry.specs.declared.Position.{Position}
use Rattle.slots.specs.Meaning.Map.{lowest_usable, is_some, slot_in}
use Rattle.slots.specs.Meaning.Slot.{version_at}
use Rattle.slots.proofs.laws.SlotLaws.{lowest_free}
use Rattle.point_records.specs.Meaning.Columns.{nums_of}
use Rattle.point_records.specs.Meaning.Word.{tracker_in, tracker_at}
use Rattle.point_records.specs.Meaning.Trackers.{last_tracker}
use Rattle.point_records.specs.Meaning.Occupied.{InDomain}
use Rattle.point_records.proofs.laws.WordLaws.{number-back}
use Rattle.point_records.proofs.laws.ColumnLaws.{number_of_row}
use Rattle.point_tables.specs.Meaning.Tables.{Tables, slots_of}
use Rattle.point_tables.specs.Meaning.Holds.{Holds}
use Rattle.point_tables.specs.Meaning.Decide.{holds, holds_says}
use Rattle.point_tables.specs.Meaning.Outcome.{Outcome, outcome}
use Rattle.replies.specs.declared.Inserted.{Inserted}
use Rattle.point_insert.specs.Meaning.Insert.{usable_slot, new_record, put, insert_answer, insert_of}
use Rattle.point_insert.proofs.laws.InsertKeeps.{put_keeps}
use Rattle.replies.specs.Meaning.Replies.{inserted}

pub insert_keeps : (t : Tables) (s : ℕ) (p : Position) (d k : ℕ) → Holds t → InDomain p → lowest_usable t.map (slots_of t) ≡ Some s → Holds (put t s p d k)
insert_keeps t s p d k h i e =
    let f = lowest_free t.nums t.map h.slots s e in
    put_keeps t h s f.0 f.1 p d k i

put-tracker : (t : Tables) (s : ℕ) (p : Position) (d k : ℕ) → s < slots_of t → k ≤ last_tracker → tracker_at (put t s p d k).nums s ≡ k
unfolding put
put-tracker t s p d k inside l =
    ap tracker_in (get_or-set_same t.nums s (nums_of (new_record t s p d k)) [] inside) ∙ number_of_row (new_record t s p d k) ∙ number-back k l

module _ (t : Tables) (p : Position) (d k : ℕ) where
  -- the outcome by the four tests
  abbrev answer_of : Bool → Bool → Bool → Option ℕ → ℕ
  answer_of a b c u = or_else a 3 (or_else b 6 (or_else c 13 (or_else (is_some u) 4 0)))

  abbrev insert_by : Bool → Bool → Bool → Option ℕ → Outcome Inserted
  insert_by a b c u =
      pick (eqb (answer_of a b c u) 0)
      (outcome (inserted 0 (slot_in u) (version_at t.nums (slot_in u))) (put t (slot_in u) p d k))
      (outcome (inserted (answer_of a b c u) 0 0) t)

  by_tests_lem : insert_of t p d k ≡ insert_by (holds t) (position_in_domain p) (leb k last_tracker) (usable_slot t)
  unfolding insert_of insert_answer
  by_tests_lem = refl

  -- ---- exactly when each answer is given
  pub insert-done :
      (s : ℕ) → Holds t → InDomain p → k ≤ last_tracker → usable_slot t ≡ Some s
      → insert_of t p d k ≡ outcome (inserted 0 s (version_at t.nums s)) (put t s p d k)
  insert-done s h i l e = by_tests_lem ∙ rw ((holds_says t).no h, (says_t (position_in_domain p)).no i, le-leb k last_tracker l, e)

  pub insert_unheld : (Holds t → ⊥) → insert_of t p d k ≡ outcome (inserted 3 0 0) t
  insert_unheld h = by_tests_lem ∙ rw (not_said (holds_says t) h)

  pub insert_outside : Holds t → (InDomain p → ⊥) → insert_of t p d k ≡ outcome (inserted 6 0 0) t
  insert_outside h i = by_tests_lem ∙ rw ((holds_says t).no h, not_said (says_t (position_in_domain p)) i)

  pub insert_untracked : Holds t → InDomain p → last_tracker < k → insert_of t p d k ≡ outcome (inserted 13 0 0) t
  insert_untracked h i l = by_tests_lem ∙ rw ((holds_says t).no h, (says_t (position_in_domain p)).no i, lt-leb k last_tracker l)

  pub insert_full : Holds t → InDomain p → k ≤ last_tracker → usable_slot t ≡ None → insert_of t p d k ≡ outcome (inserted 4 0 0) t
  insert_full h i l e = by_tests_lem ∙ rw ((holds_says t).no h, (says_t (position_in_domain p)).no i, le-leb k last_tracker l, e)

  -- tables that hold a grid still do
  pub insert-holds : Holds t → Holds (insert_of t p d k).after
  insert-holds h = rw by_tests_lem (go (holds t) (position_in_domain p) (leb k last_tracker) (usable_slot t) (says_t (position_in_domain p)).yes refl)
    where
      go : (a b c : Bool) (u : Option ℕ) → (b ≡ true → InDomain p) → usable_slot t ≡ u → Holds (insert_by a b c u).after
      go false b c u i e = h
      go true false c u i e = h
      go true true false u i e = h
      go true true true None i e = h
      go true true true (Some s) i e = insert_keeps t s p d k h (i refl) e

  -- an accepted insert's object is the tracker's that was named
  pub inserted-tracker : (insert_of t p d k).result.answer ≡ 0 → tracker_at (insert_of t p d k).after.nums (insert_of t p d k).result.handle.slot ≡ k
  inserted-tracker = rw by_tests_lem (go (holds t) (position_in_domain p) (leb k last_tracker) (usable_slot t) refl (leb-true k last_tracker) refl)
    where
      go :
          (a b c : Bool) (u : Option ℕ) → holds t ≡ a → (c ≡ true → k ≤ last_tracker) → usable_slot t ≡ u → (insert_by a b c u).result.answer ≡ 0
          → tracker_at (insert_by a b c u).after.nums (insert_by a b c u).result.handle.slot ≡ k
      go false b c u h l e z = absurd (omega arith)
      go true false c u h l e z = absurd (omega arith)
      go true true false u h l e z = absurd (omega arith)
      go true true true None h l e z = absurd (omega arith)
      go true true true (Some s) h l e z = put-tracker t s p d k (lowest_free t.nums t.map ((holds_says t).yes h).slots s e).0 (l refl)
