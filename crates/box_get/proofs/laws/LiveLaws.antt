-- The objects are as many as the live slots below the last; and the answer of a call that writes a row for each. Assumes nothing.
use Rattle.basics.specs.Words.{ℕ, ◌≤◌, ◌≡◌, refl, Bool, true, false, [], ◌∷◌, length, eqb, leb, arith, leb-true}
use Rattle.basics.specs.Meaning.Refusals.{unless, first_of, by_tests, pick}
use Rattle.basics.specs.Inner.Counting.{count_below}
use Rattle.slot_walks.proofs.laws.Live.{live_at}
use Rattle.slot_walks.proofs.laws.LiveLaws as Live
use Rattle.box_tables.specs.Meaning.Tables.{Tables, slots_of}
use Rattle.box_tables.specs.Meaning.Holds.{Holds}
use Rattle.box_tables.specs.Meaning.Decide.{holds, holds_says}
use Rattle.replies.specs.declared.Count.{Count}
use Rattle.box_get.specs.Meaning.Live.{live_slots, list_tests}
use Rattle.replies.specs.Meaning.Replies.{count}

-- what the length law counts
pub live-count : (t : Tables) → length (live_slots t) ≡ count_below (live_at t.nums) (slots_of t)
unfolding live_slots
live-count t = Live.live-count t.nums

-- the answer and what is returned with it, by the tables
unfoldable pub list_answer : Tables → ℕ → ℕ
list_answer t room = first_of (list_tests t room)

unfoldable pub list_count : Tables → ℕ → Count
list_count t room = by_tests (list_tests t room) (count 0 (length (live_slots t))) (λ a. count a (pick (eqb a 9) (length (live_slots t)) 0))

-- the answer by the two tests, and the count with it
abbrev answer_by : Bool → Bool → ℕ
answer_by held fits = first_of (unless held 3 ∷ unless fits 9 ∷ [])

abbrev count_for : ℕ → Bool → Bool → Count
count_for n held fits = let a = answer_by held fits in pick (eqb a 0) (count 0 n) (count a (pick (eqb a 9) n 0))

module _ (t : Tables) (room : ℕ) where
  pub answer_of_lem : (list_count t room).answer ≡ list_answer t room
  unfolding list_count list_answer
  answer_of_lem = go (holds t) (leb (length (live_slots t)) room)
    where
      go : (a b : Bool) → (count_for (length (live_slots t)) a b).answer ≡ answer_by a b
      go false b = refl
      go true false = refl
      go true true = refl

  -- ---- exactly when each answer is given
  -- 0 says that the tables hold a grid, and that there is room for every object
  pub list_passed : list_answer t room ≡ 0 → (holds t ≡ true) × (length (live_slots t) ≤ room)
  unfolding list_answer
  list_passed z = go (holds t) (leb (length (live_slots t)) room) refl refl z
    where
      go : (a b : Bool) → holds t ≡ a → leb (length (live_slots t)) room ≡ b → answer_by a b ≡ 0 → (holds t ≡ true) × (length (live_slots t) ≤ room)
      go false b e f z = absurd (omega arith)
      go true false e f z = absurd (omega arith)
      go true true e f z = (e, leb-true (length (live_slots t)) room f)

  -- on tables that hold a grid the number returned is that of the objects
  pub list_counts : Holds t → (list_count t room).count ≡ length (live_slots t)
  unfolding list_count
  list_counts h = rw ((holds_says t).no h) (go (leb (length (live_slots t)) room))
    where
      go : (b : Bool) → (count_for (length (live_slots t)) true b).count ≡ length (live_slots t)
      go true = refl
      go false = refl
