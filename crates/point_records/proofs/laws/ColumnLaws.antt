-- What is stored is loaded again, and every other record is as it was.
use Rattle.basics.specs.Words.{ℕ, ◌<◌, ◌≡◌, refl, ap, ap₂, ◌∙◌, ◌≤◌, List, [], length, set, get_or-set_same, get_or-set_other, ℤ}
use lib.Ieee.{Float}
use Rattle.point_records.specs.declared.State.{State}
use Rattle.point_records.specs.declared.State.TheVariants.{Unchanged, NewPos, Relocate, Removed}
use Rattle.point_records.specs.declared.Record.{Record}
use Rattle.geometry.specs.declared.Position.{Position}
use Rattle.cells.specs.declared.Cell.{Cell}
use Rattle.point_records.specs.declared.Tracker.{Tracker}
use Rattle.point_records.specs.Meaning.Columns.{record_at, record_of, state_of, tag_of, pending_of, target_of, nums_of, reals_of, ints_of}
use Rattle.point_records.specs.Meaning.Word.{last_word, word_in, tag_in, tracker_in}
use Rattle.point_records.specs.Meaning.Trackers.{tracker_number, tracker_of}
use Rattle.point_records.proofs.laws.WordLaws.{number_small, tracker-back, tag_small, tag_word, tracker_word, word_small}

pub state-back : (s : State) (p : Position) (c : Cell) → state_of (tag_of s) (pending_of s p) (target_of s c) ≡ s
state-back Unchanged p c = refl
state-back (NewPos q) p c = refl
state-back (Relocate q d) p c = refl
state-back Removed p c = refl

-- what the word of a record's row says
pub tag_back : (r : Record) → tag_in (nums_of r) ≡ tag_of r.state
tag_back r = tag_word (tracker_number r.tracker) (tag_of r.state) (tag_small r.state)

pub number_of_row : (r : Record) → tracker_in (nums_of r) ≡ tracker_number r.tracker
number_of_row r = tracker_word (tracker_number r.tracker) (tag_of r.state) (tag_small r.state) (number_small r.tracker)

pub word_of_row : (r : Record) → word_in (nums_of r) ≤ last_word
word_of_row r = word_small (tracker_number r.tracker) (tag_of r.state) (tag_small r.state) (number_small r.tracker)

abbrev with_both : Record → State → Tracker → Record
with_both r s k = record { version = r.version; phase = r.phase; obj = r.obj; position = r.position; cell = r.cell; state = s; tracker = k }

pub record_back : (r : Record) → record_of (nums_of r) (reals_of r) (ints_of r) ≡ r
record_back r =
    ap₂ (with_both r)
    (ap (λ (t : ℕ). state_of t (pending_of r.state r.position) (target_of r.state r.cell)) (tag_back r) ∙ state-back r.state r.position r.cell)
    (ap tracker_of (number_of_row r) ∙ tracker-back r.tracker)

module _ (ns : List (List ℕ)) (qs : List (List Float)) (zs : List (List ℤ)) (i : ℕ) (r : Record) where
  pub stored_same : i < length ns → i < length qs → i < length zs → record_at (set ns i (nums_of r)) (set qs i (reals_of r)) (set zs i (ints_of r)) i ≡ r
  stored_same hn hq hz = cc (get_or-set_same ns i (nums_of r) [] hn, get_or-set_same qs i (reals_of r) [] hq, get_or-set_same zs i (ints_of r) [] hz, record_back r)

  pub stored_other : (j : ℕ) → (j ≡ i → ⊥) → record_at (set ns i (nums_of r)) (set qs i (reals_of r)) (set zs i (ints_of r)) j ≡ record_at ns qs zs j
  stored_other j h = cc (get_or-set_other ns i j (nums_of r) [] h, get_or-set_other qs i j (reals_of r) [] h, get_or-set_other zs i j (ints_of r) [] h)
