-- What the work of an insert needs, and its parts in the words of the code. Assumes nothing.
use Rattle.std.specs.Prelude.{◌<◌, ◌≡◌, Float, Result, IfOk, Some}
use Rattle.basics.specs.Words.{ℕ, true, List, set, ℤ}
use Rattle.basics.specs.declared.Refusal.{Refusal}
use Rattle.basics.specs.Meaning.Answers.{answer_of}
use Rattle.geometry.specs.Meaning.Domain.{position_in_domain}
use Rattle.geometry.specs.declared.Position.{Position}
use Rattle.cells.specs.declared.Cell.{Cell}
use Rattle.slots.specs.Meaning.Map.{lowest_usable}
use Rattle.slots.specs.Meaning.Slot.{free, live, phase_at}
use Rattle.point_records.specs.declared.State.TheVariants.{Unchanged}
use Rattle.point_records.specs.declared.Record.{Record}
use Rattle.point_records.specs.Meaning.Columns.{nums_of, reals_of, ints_of}
use Rattle.point_records.specs.Meaning.Trackers.{tracker_of}
use Rattle.point_records.specs.Meaning.Occupied.{InDomain}
use Rattle.point_tables.specs.Meaning.Tables.{Tables, slots_of}
use Rattle.point_tables.specs.Meaning.Holds.{Holds}
use Rattle.point_insert.specs.Inner.Insert.{answer_by}

-- tables that hold a grid, a position of the domain, and a slot that is free
pub record Fresh (t : Tables) (s : ℕ) (p : Position) : Type 0 where
  pub holds : Holds t
  pub within_domain : InDomain p
  pub inside : s < slots_of t
  pub is_free : phase_at t.nums s ≡ free

-- what is chosen, by the map m of n slots of a grid: the lowest usable slot, or the first refusal that applies
abbrev pub Chosen : Position → ℕ → List ℕ → ℕ → Result ℕ Refusal → Type 0
Chosen p k m n r =
    (answer_of r ≡ answer_by true (position_in_domain p) k (lowest_usable m n)) × IfOk r (λ s. lowest_usable m n ≡ Some s)

-- an object at p, in its cell, with nothing pending
abbrev pub fresh_record : ℕ → Position → Cell → ℕ → ℕ → Record
fresh_record version p c d k = record { version = version; phase = live; obj = d; position = p; cell = c; state = Unchanged; tracker = tracker_of k }

-- columns have the record r for slot s after a call, and else what they had before
abbrev pub Stored : List (List ℕ) → List (List Float) → List (List ℤ) → ℕ → Record → List (List ℕ) → List (List Float) → List (List ℤ) → Type 0
Stored nums reals ints s r nums' reals' ints' =
    (nums' ≡ set nums s (nums_of r)) × (reals' ≡ set reals s (reals_of r)) × (ints' ≡ set ints s (ints_of r))
