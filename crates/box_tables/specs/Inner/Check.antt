-- What the parts of the check ask: each slot and its box, and each entry of the pool as the next on the way of its box. Assumes nothing.
use Rattle.std.specs.Prelude.{◌+◌, ◌/◌, ◌<◌, ◌≤◌, ◌≡◌, ◌∷◌, ◌++◌, ◌↔◌, Float, Option, Some, None}
use Rattle.basics.specs.Words.{ℕ, List, [], map, length, get_or, set, take, T}
use Rattle.basics.specs.Meaning.Limits.{most_boxes, most_entries, most_cells}
use Rattle.geometry.specs.declared.Aabb.{Aabb}
use Rattle.geometry.specs.Meaning.Domain.{aabb_in_domain}
use Rattle.cells.specs.Inner.Key.{column_of}
use Rattle.cells.specs.Meaning.Size.{SizeInDomain}
use Rattle.slots.specs.Inner.Map.{NonePast}
use Rattle.slots.specs.Meaning.Map.{head, words_for, usable}
use Rattle.slots.specs.Meaning.Slot.{live, version_at, phase_at, SlotHolds}
use Rattle.storage.specs.Meaning.Keyed.{filter}
use Rattle.storage.specs.Meaning.Entries.{row_key, is_item}
use Rattle.storage.specs.Meaning.Packed.{first, second}
use Rattle.box_tables.specs.Meaning.Tables.{aabb_at, covers}
use Rattle.box_tables.specs.declared.way.Way.{Way}
use Rattle.box_tables.specs.declared.slot_ways.Ways.{Ways}
use Rattle.box_tables.specs.Inner.Way.{ToCome, track_of, OnTrack, key_most, way_at}

-- ---- the counts, and the slots
pub record Counts (size used pool : ℕ) : Type 0 where
  pub within_domain : SizeInDomain size
  pub used-most : used ≤ pool

-- a box in the domain that covers at most 4,096 cells
pub record BoxOk (size : ℕ) (b : Aabb) : Type 0 where
  pub within_domain : T (aabb_in_domain b)
  pub cells-most : covers size b ≤ most_cells

-- ---- the ways by items: next key, last column, step, end
abbrev pub way_row : Ways → ℕ → List ℕ
way_row ways i = get_or ways.nexts i 0 ∷ get_or ways.stops i 0 ∷ get_or ways.jumps i 0 ∷ get_or ways.ends i 0 ∷ []

abbrev pub blank_row : List ℕ
blank_row = 0 ∷ 0 ∷ 1 ∷ 0 ∷ []

pub record Long (ways : Ways) : Type 0 where
  pub of_nexts : length ways.nexts ≡ 512
  pub of_stops : length ways.stops ≡ 512
  pub of_jumps : length ways.jumps ≡ 512
  pub of_ends : length ways.ends ≡ 512

-- the ways with one more, at its item
abbrev pub put_in : Ways → Way → Ways
put_in ways way =
    record {
      nexts = set ways.nexts way.item way.first;
      stops = set ways.stops way.item (column_of way.last);
      jumps = set ways.jumps way.item way.jump;
      ends = set ways.ends way.item (way.last + way.jump);
    }

module _ (nums : List (List ℕ)) (reals : List (List Float)) where
  pub record SlotOk (map : List ℕ) (size s : ℕ) : Type 0 where
    pub slot : SlotHolds (version_at nums s) (phase_at nums s) (usable map s)
    pub if_live : phase_at nums s ≡ live → BoxOk size (aabb_at reals s)

  pub record SlotsOk (map : List ℕ) : Type 0 where
    pub each : (s : ℕ) → s < length nums → SlotOk map (get_or map 0 0) s
    pub past : NonePast map (length nums)

  -- lengths that let every slot be read, and a cell size of the domain
  pub record Room (map : List ℕ) : Type 0 where
    pub most : length nums ≤ most_boxes
    pub of_reals : length reals ≡ length nums
    pub of_map : length map ≡ head + words_for (length nums)
    pub size : SizeInDomain (get_or map 0 0)

  -- slot s can be read, and its bit
  pub record Readable (map : List ℕ) (s : ℕ) : Type 0 where
    pub of_nums : s < length nums
    pub of_reals : s < length reals
    pub of_map : head + s / 64 < length map
    pub small : s < most_boxes

  -- the ways of the first i slots are those of their boxes, each at its item; at no other item does a key come
  pub record WaysBy (size : ℕ) (ways : Ways) (i : ℕ) : Type 0 where
    pub long : Long ways
    pub are : (s : ℕ) → s < i → way_row ways (way_at nums reals size s).item ≡ track_of (way_at nums reals size s)
    pub blank : (k : ℕ) → ((s : ℕ) → s < i → (way_at nums reals size s).item ≡ k → ⊥) → k < 512 → way_row ways k ≡ blank_row

  -- by the cell size that the map's head word has
  abbrev pub WaysTo : List ℕ → Ways → ℕ → Type 0
  WaysTo map ways i = WaysBy (get_or map 0 0) ways i

-- the way that is wanted, where P holds; else none
abbrev pub Given : Type 0 → Way → Option Way → Type 0
Given P want None = P → ⊥
Given P want (Some way) = P × (way ≡ want)

-- ---- the entries
-- the keys of the entries of an item among the first j
abbrev pub keys_of : List (List ℕ) → ℕ → ℕ → List ℕ
keys_of pool j i = map row_key (filter (is_item i) (take j pool))

-- the first `used` entries are in order, and of each item they are the keys of its way
pub record Passes (pool : List (List ℕ)) (ways : Ways) (used : ℕ) : Type 0 where
  pub ordered : (i j : ℕ) → j < used → i < j → first pool i ≤ first pool j
  pub inside : (j : ℕ) → j < used → second pool j < 512
  pub every : (i : ℕ) → i < 512 → OnTrack (way_row ways i) (keys_of pool used i)

-- lengths that let every entry be read, and steps that fit
pub record Ready (pool : List (List ℕ)) (ways : Ways) (used : ℕ) : Type 0 where
  pub in_pool : used ≤ length pool
  pub most : used ≤ most_entries
  pub long : Long ways
  pub reach : (i : ℕ) → i < 512 → get_or ways.nexts i 0 ≤ key_most
  pub steps : (i : ℕ) → i < 512 → get_or ways.jumps i 0 ≤ 4294967296

-- these keys are what is to come at an item from k on, up to an end
abbrev pub ComesAt : Ways → ℕ → ℕ → ℕ → List ℕ → Type 0
ComesAt ways i end k l = ToCome (get_or ways.stops i 0) (get_or ways.jumps i 0) end k l

-- the first j entries are in order; what is to come is what was to come behind their keys, and nothing but the next keys has changed
pub record Gone (pool : List (List ℕ)) (ways₀ ways : Ways) (j : ℕ) : Type 0 where
  pub others : ways ≡ record ways₀ { nexts = ways.nexts }
  pub ordered : (a b : ℕ) → b < j → a < b → first pool a ≤ first pool b
  pub inside : (a : ℕ) → a < j → second pool a < 512
  pub comes : (i : ℕ) → i < 512 → (end : ℕ) (l : List ℕ) → ComesAt ways₀ i end (get_or ways₀.nexts i 0) (keys_of pool j i ++ l) ↔ ComesAt ways₀ i end (get_or ways.nexts i 0) l

-- nothing is to come at any item
abbrev pub Met : Ways → Type 0
Met ways = (i : ℕ) → i < 512 → get_or ways.nexts i 0 ≡ get_or ways.ends i 0
