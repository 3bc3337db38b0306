-- `clear`: exactly when each answer is given, what it then leaves and writes, and that tables that hold a grid still do after it.
-- Assumes nothing.
use Rattle.basics.specs.Words.{ℕ, ◌<◌, ◌≤◌, min, ◌≡◌, refl, ◌∙◌, Bool, true, false, List, map, length, eqb, leb, arith, le-leb, lt-leb}
use lib.Ieee.{Float}
use Rattle.basics.specs.Meaning.Refusals.{pick, or_else}
use Rattle.basics.proofs.laws.Says.{apart}
use Rattle.slots.specs.declared.Handle.{Handle}
use Rattle.slots.specs.Meaning.Slot.{good, gone}
use Rattle.slots.proofs.laws.HandleLaws.{good_says}
use Rattle.slot_walks.proofs.laws.ClearedLaws.{cleared-row-gone}
use Rattle.storage.specs.Meaning.Keyed.{written}
use Rattle.point_tables.specs.Meaning.Tables.{Tables, used_of}
use Rattle.point_tables.specs.Meaning.Holds.{Holds}
use Rattle.point_tables.specs.Meaning.Decide.{holds, holds_says}
use Rattle.point_tables.specs.Meaning.Outcome.{Outcome, outcome}
use Rattle.point_clear.specs.Meaning.Clear.{live_slots, cleared, place_on, obj_on, Written, wrote, clear_of}
use Rattle.point_clear.proofs.laws.LiveLaws.{live-used}
use Rattle.point_clear.proofs.laws.ClearKeeps.{cleared_keeps, cleared-used}
use Rattle.replies.specs.Meaning.Replies.{count}

module _ (t : Tables) (places : List (List Float)) (objs : List (List ℕ)) where
  -- the number of objects, and the places that both outputs have
  abbrev found : ℕ
  found = length (live_slots t)

  abbrev room : ℕ
  room = min (length places) (length objs)

  -- the outcome by the two tests
  abbrev answer_by : Bool → Bool → ℕ
  answer_by a b = or_else a 3 (or_else b 9 0)

  abbrev clear_by : Bool → Bool → Outcome Written
  clear_by a b =
      pick (eqb (answer_by a b) 0)
      (outcome (wrote (count 0 found) (written (map (place_on t) (live_slots t)) places) (written (map (obj_on t) (live_slots t)) objs)) (cleared t))
      (outcome (wrote (count (answer_by a b) (pick (eqb (answer_by a b) 9) found 0)) places objs) t)

  by_tests_lem : clear_of t places objs ≡ clear_by (holds t) (leb found room)
  unfolding clear_of
  by_tests_lem = refl

  -- ---- exactly when each answer is given
  pub clear_unheld : holds t ≡ false → clear_of t places objs ≡ outcome (wrote (count 3 0) places objs) t
  clear_unheld e = by_tests_lem ∙ rw e

  pub clear-short : holds t ≡ true → room < found → clear_of t places objs ≡ outcome (wrote (count 9 found) places objs) t
  clear-short e l = by_tests_lem ∙ rw (e, lt-leb found room l)

  pub clear-done : holds t ≡ true → found ≤ length places → found ≤ length objs → clear_of t places objs ≡ outcome (wrote (count 0 found) (written (map (place_on t) (live_slots t)) places) (written (map (obj_on t) (live_slots t)) objs)) (cleared t)
  clear-done e l m = by_tests_lem ∙ rw (e, le-leb found room (omega arith))

  -- a refusal leaves the tables and both outputs
  pub clear-refused : ((clear_of t places objs).result.returned.answer ≡ 0 → ⊥) → clear_of t places objs ≡ outcome (wrote (clear_of t places objs).result.returned places objs) t
  clear-refused = rw by_tests_lem (go (holds t) (leb found room))
    where
      go : (a b : Bool) → ((clear_by a b).result.returned.answer ≡ 0 → ⊥) → clear_by a b ≡ outcome (wrote (clear_by a b).result.returned places objs) t
      go false b n = refl
      go true false n = refl
      go true true n = absurd (n refl)

  -- after 0 every handle that was good is gone, at the last version too
  pub cleared-gone : (clear_of t places objs).result.returned.answer ≡ 0 → (h : Handle) → good t.nums h.slot h.version ≡ true
      → gone (clear_of t places objs).after.nums h.slot h.version ≡ true
  unfolding cleared
  cleared-gone = rw by_tests_lem (go (holds t) (leb found room) (holds_says t).yes)
    where
      go : (a b : Bool) → (a ≡ true → Holds t) → (clear_by a b).result.returned.answer ≡ 0 → (h : Handle) → good t.nums h.slot h.version ≡ true
          → gone (clear_by a b).after.nums h.slot h.version ≡ true
      go false b k e h g = absurd (omega arith)
      go true false k e h g = absurd (omega arith)
      go true true k e h g =
          let n = (good_says t.nums h.slot h.version).yes g in
          cleared-row-gone t.nums h.slot h.version g (omega (arith, n.2, ((k refl).slots.each h.slot n.0).versioned))

  -- tables that hold a grid still do
  pub clear-holds : Holds t → Holds (clear_of t places objs).after
  clear-holds h = rw by_tests_lem (go (holds t) (leb found room))
    where
      go : (a b : Bool) → Holds (clear_by a b).after
      go false b = h
      go true false = h
      go true true = cleared_keeps t h

  -- the number returned with 0 and 9 is that of the objects; after 0 there is none
  module _ (h : Holds t) where
    pub clear-counts : (clear_of t places objs).result.returned.count ≡ used_of t
    clear-counts = rw by_tests_lem (go (holds t) (leb found room) ((holds_says t).no h)) ∙ live-used t h
      where
        go : (a b : Bool) → a ≡ true → (clear_by a b).result.returned.count ≡ found
        go false b e = absurd (apart e)
        go true false e = refl
        go true true e = refl

    pub clear_empty : (clear_of t places objs).result.returned.answer ≡ 0 → used_of (clear_of t places objs).after ≡ 0
    clear_empty = rw by_tests_lem (go (holds t) (leb found room))
      where
        go : (a b : Bool) → (clear_by a b).result.returned.answer ≡ 0 → used_of (clear_by a b).after ≡ 0
        go false b e = absurd (omega arith)
        go true false e = absurd (omega arith)
        go true true e = cleared-used t h
