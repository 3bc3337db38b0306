-- The word of a slot's row, made and taken apart, and the numbers of the eight trackers. Assumes nothing.
use Rattle.basics.specs.Words.{ℕ, zero, suc, ◌≤◌, ◌≡◌, refl, sym, ap, ◌∙◌, List, arith}
use Rattle.point_records.specs.declared.State.{State}
use Rattle.point_records.specs.declared.State.TheVariants.{Unchanged, NewPos, Relocate, Removed}
use Rattle.point_records.specs.declared.Tracker.{Tracker}
use Rattle.point_records.specs.declared.Tracker.TheVariants.{T0, T1, T2, T3, T4, T5, T6, T7}
use Rattle.point_records.specs.Meaning.Word.{last_word, word_of, tag_in, tracker_in, parts_of}
use Rattle.point_records.specs.Meaning.Trackers.{last_tracker, tracker_number, tracker_of}
use Rattle.point_records.specs.Meaning.Columns.{tag_of}

-- ---- the eight
pub number_small : (t : Tracker) → tracker_number t ≤ last_tracker
number_small T0 = omega arith
number_small T1 = omega arith
number_small T2 = omega arith
number_small T3 = omega arith
number_small T4 = omega arith
number_small T5 = omega arith
number_small T6 = omega arith
number_small T7 = omega arith

pub tracker-back : (t : Tracker) → tracker_of (tracker_number t) ≡ t
tracker-back T0 = refl
tracker-back T1 = refl
tracker-back T2 = refl
tracker-back T3 = refl
tracker-back T4 = refl
tracker-back T5 = refl
tracker-back T6 = refl
tracker-back T7 = refl

pub number-back : (k : ℕ) → k ≤ last_tracker → tracker_number (tracker_of k) ≡ k
number-back zero l = refl
number-back (suc zero) l = refl
number-back (suc (suc zero)) l = refl
number-back (suc (suc (suc zero))) l = refl
number-back (suc (suc (suc (suc zero)))) l = refl
number-back (suc (suc (suc (suc (suc zero))))) l = refl
number-back (suc (suc (suc (suc (suc (suc zero)))))) l = refl
number-back (suc (suc (suc (suc (suc (suc (suc zero))))))) l = refl
number-back (suc (suc (suc (suc (suc (suc (suc (suc k)))))))) l = absurd (omega (arith, l))

-- ---- a word made of a tracker's number and a tag has these parts
pub tag_small : (s : State) → tag_of s ≤ 3
tag_small Unchanged = omega arith
tag_small (NewPos p) = omega arith
tag_small (Relocate p c) = omega arith
tag_small Removed = omega arith

module _ (k t : ℕ) (few : t ≤ 3) where
  pub tag_word : (parts_of (word_of k t)).tag ≡ t
  tag_word = omega (arith, few)

  pub tracker_word : k ≤ last_tracker → (parts_of (word_of k t)).tracker ≡ k
  tracker_word l = omega (arith, few, l)

  pub word_small : k ≤ last_tracker → word_of k t ≤ last_word
  word_small l = omega (arith, few, l)

-- ---- what a row says is a tag and the number of a tracker, whatever the row
pub tag_in_small : (n : List ℕ) → tag_in n ≤ 3
tag_in_small n = omega arith

pub tracker_in_small : (n : List ℕ) → tracker_in n ≤ last_tracker
tracker_in_small n = omega arith

pub number_in : (n : List ℕ) → tracker_number (tracker_of (tracker_in n)) ≡ tracker_in n
number_in n = number-back (tracker_in n) (tracker_in_small n)

-- rows whose records have the same tracker have the same number of it
pub tracker-same : (n m : List ℕ) → tracker_of (tracker_in n) ≡ tracker_of (tracker_in m) → tracker_in n ≡ tracker_in m
tracker-same n m e = sym (number_in n) ∙ ap tracker_number e ∙ number_in m
