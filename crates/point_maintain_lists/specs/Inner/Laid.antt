-- What the functions of the pass are asked for and give. Assumes nothing.
use Rattle.std.specs.Prelude.{◌+◌, ◌-◌, ◌<◌, ◌≤◌, ◌≡◌, ◌++◌, Float}
use Rattle.basics.specs.Words.{ℕ, Bool, List, length}
use Rattle.basics.specs.Meaning.Refusals.{pick}
use Rattle.storage.specs.Meaning.Entries.{Entry, entries_of}
use Rattle.storage.specs.Meaning.Packed.{second}
use Rattle.storage.specs.Inner.Pooled.{Columns}
use Rattle.point_tables.specs.Inner.Entry.{entry_at}
use Rattle.point_maintain.specs.Inner.Kept.{kept}
use Rattle.point_maintain_lists.specs.Inner.Runs.{run}
use Rattle.point_maintain_lists.specs.Inner.Tags.{fate_in}

-- the list at the places from..to is in both columns, and what it keeps is laid at place w or later, not behind where the list begins
pub record Room (pool : List (List ℕ)) (spots : List (List Float)) (from to w : ℕ) : Type 0 where
  pub low : w ≤ from
  pub ends : from ≤ to
  pub in_pool : to ≤ length pool
  pub in_spots : to ≤ length spots

-- each entry of that list names a slot
pub record Slotted (nums : List (List ℕ)) (reals : List (List Float)) (pool : List (List ℕ)) (from to : ℕ) : Type 0 where
  pub inside : (j : ℕ) → from ≤ j → j < to → second pool j < length nums
  pub as_many : length reals ≡ length nums

-- the entries of es are laid from place w on, and r is the place behind them; every other place is as it was
pub record Laid (es : List Entry) (pool : List (List ℕ)) (spots : List (List Float)) (w to r : ℕ) (pool' : List (List ℕ)) (spots' : List (List Float)) : Type 0 where
  pub count : r ≡ w + length es
  pub low : r ≤ to
  pub columns : Columns (entries_of pool spots w ++ es) pool spots pool' spots'

-- the list at the places from..to
abbrev pub list_at : List (List ℕ) → List (List Float) → ℕ → ℕ → List Entry
list_at pool spots from to = run (entry_at pool spots) from (to - from)

-- r entries, those of es, are in use in the columns after a call, and past them is what was there before
abbrev pub InUse : List Entry → List (List ℕ) → List (List Float) → List (List ℕ) → List (List Float) → ℕ → Type 0
InUse es pool spots pool' spots' r = (r ≡ length es) × Columns es pool spots pool' spots'

-- what a list keeps: it is walked if its cell is dirty
abbrev pub kept_if : Bool → List (List ℕ) → List (List Float) → List Entry → List Entry
kept_if dirty nums reals es = pick dirty (kept (fate_in nums reals) es) es
