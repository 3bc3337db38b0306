-- What the pass over the pool and the cell table asks of each entry, of a run of them, and of all of them. Assumes nothing.
-- Here: what only inner contracts cite.
use Rattle.std.specs.Prelude.{◌<◌, ◌≤◌, ◌≡◌, Float}
use Rattle.basics.specs.Words.{ℕ, Bool, true, false, List, length, get_or, ℤ}
use Rattle.std.specs.Float.Ieee.{is_nan}
use Rattle.basics.specs.Meaning.Limits.{most_slots}
use Rattle.cells.specs.declared.Cell.{Cell}
use Rattle.cells.specs.Meaning.Size.{SizeInDomain}
use Rattle.cells.specs.Inner.Key.{cell_of_key}
use Rattle.cells.specs.Meaning.Key.{key_of}
use Rattle.slots.specs.Meaning.Slot.{live, version_at, phase_at}
use Rattle.storage.specs.Meaning.Packed.{first, second, Packed}
use Rattle.point_records.specs.declared.Entry.{Entry}
use Rattle.point_records.specs.Meaning.Columns.{record_at}
use Rattle.point_records.specs.Meaning.Word.{last_word, word_at, tag_at}
use Rattle.point_records.specs.Inner.Listed.{listed_at}
use Rattle.point_records.specs.Meaning.Occupied.{Occupied}

-- an entry of this key is that of its slot: the slot is occupied, its cell has the key, and its position is the entry's, no NaN
pub record Fits (nums : List (List ℕ)) (reals : List (List Float)) (ints : List (List ℤ)) (key : ℕ) (e : Entry) : Type 0 where
  pub inside : e.slot < length nums
  pub occupied : phase_at nums e.slot ≡ live
  pub is_key : key ≡ key_of (record_at nums reals ints e.slot).cell
  pub at : e.position ≡ (record_at nums reals ints e.slot).position
  pub number-x : is_nan e.position.x ≡ false
  pub number-y : is_nan e.position.y ≡ false

-- where something is pending for slot s, row r is marked
abbrev pub Marked : List (List ℕ) → List (List ℕ) → ℕ → ℕ → Type 0
Marked nums cells s r = (tag_at nums s ≡ 0 → ⊥) → second cells r ≡ 1

module _ (nums : List (List ℕ)) (reals : List (List Float)) (ints : List (List ℤ)) where
  -- the record of an occupied slot holds: its version is not 0, its word is that of a tracker and a tag, its cell is that of its position, and
  -- what is pending agrees
  pub record Whole (size s : ℕ) : Type 0 where
    pub versioned : version_at nums s ≡ 0 → ⊥
    pub worded : word_at nums s ≤ last_word
    pub occupied : Occupied size (record_at nums reals ints s)

  -- an entry is that of its slot, which is occupied by an object of cell c; and the mark is set if something is pending for it
  pub record Right (size : ℕ) (c : Cell) (mark : ℕ) (e : Entry) : Type 0 where
    pub inside : e.slot < length nums
    pub occupied : phase_at nums e.slot ≡ live
    pub is_cell : (record_at nums reals ints e.slot).cell ≡ c
    pub at : e.position ≡ (record_at nums reals ints e.slot).position
    pub number-x : is_nan e.position.x ≡ false
    pub number-y : is_nan e.position.y ≡ false
    pub whole : Whole size e.slot
    pub marked : (tag_at nums e.slot ≡ 0 → ⊥) → mark ≡ 1

module _ (nums : List (List ℕ)) (reals : List (List Float)) (ints : List (List ℤ)) (pool : List (List ℕ)) (spots : List (List Float)) where
  -- entry j is right in the list of this key and mark, and no entry before it names its slot
  pub record Here (size key mark j : ℕ) : Type 0 where
    pub is_key : first pool j ≡ key
    pub right : Right nums reals ints size (cell_of_key key) mark (listed_at pool spots j)
    pub fresh : (i : ℕ) → i < j → second pool i ≡ second pool j → ⊥

  -- the entries from `from` to e are, and entry e is not
  pub record Run (size used key mark from e : ℕ) : Type 0 where
    pub up : from ≤ e
    pub most : e ≤ used
    pub each : (j : ℕ) → from ≤ j → j < e → Here size key mark j
    pub stop : e < used → Here size key mark e → ⊥

module _ (nums : List (List ℕ)) (reals : List (List Float)) (ints : List (List ℤ)) (pool : List (List ℕ)) (spots : List (List Float)) (cells : List (List ℕ)) (size : ℕ) where
  -- the pool, the cell table and the records that are named are right; of the objects it is not asked that each has an entry
  pub record Passes (used rows : ℕ) : Type 0 where
    pub each : (j : ℕ) → j < used → Fits nums reals ints (first pool j) (listed_at pool spots j)
    pub whole : (j : ℕ) → j < used → Whole nums reals ints size (second pool j)
    pub once : (i j : ℕ) → j < used → i < j → second pool i ≡ second pool j → ⊥
    pub packed : Packed used rows pool cells
    pub marked : (j : ℕ) → j < used → (r : ℕ) → r < rows → first cells r ≡ first pool j → Marked nums cells (second pool j) r

  -- lengths that let every entry and every row be read, and a cell size of the domain
  pub record Room (used rows : ℕ) : Type 0 where
    pub most : length nums ≤ most_slots
    pub of_reals : length reals ≡ length nums
    pub of_ints : length ints ≡ length nums
    pub in_pool : used ≤ length pool
    pub in_spots : used ≤ length spots
    pub in_cells : rows ≤ length cells
    pub of_size : SizeInDomain size

-- the marks say which slots the first i entries name
pub record Named (pool : List (List ℕ)) (marks : List Bool) (i : ℕ) : Type 0 where
  pub all : (j : ℕ) → j < i → get_or marks (second pool j) false ≡ true
  pub only : (s : ℕ) → get_or marks s false ≡ true → (j : ℕ) × (j < i) × (second pool j ≡ s)
