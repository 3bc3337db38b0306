-- What the parts of the check ask: the counts, and each slot with the mark that an entry names it. Assumes nothing.
use Rattle.std.specs.Prelude.{◌+◌, ◌<◌, ◌≤◌, ◌≡◌}
use Rattle.basics.specs.Words.{ℕ, Bool, true, false, List, length, get_or}
use Rattle.basics.specs.Meaning.Limits.{most_slots}
use Rattle.basics.specs.Inner.Counting.{count_below}
use Rattle.cells.specs.Meaning.Size.{SizeInDomain}
use Rattle.slots.specs.Inner.Map.{NonePast}
use Rattle.slots.specs.Meaning.Map.{head, words_for, usable}
use Rattle.slots.specs.Meaning.Slot.{free, live, version_at, phase_at, SlotHolds}

pub record Counts (n size used rows : ℕ) : Type 0 where
  pub within_domain : SizeInDomain size
  pub used-most : used ≤ n
  pub rows-most : rows ≤ n

module _ (nums : List (List ℕ)) (map : List ℕ) where
  -- version, phase and bit agree, and an occupied slot is listed
  pub record SlotOk (s : ℕ) (listed : Bool) : Type 0 where
    pub slot : SlotHolds (version_at nums s) (phase_at nums s) (usable map s)
    pub if_live : phase_at nums s ≡ live → listed ≡ true

  abbrev pub EachOk : List Bool → Type 0
  EachOk marks = (s : ℕ) → s < length nums → SlotOk s (get_or marks s false)

  pub record SlotsOk (marks : List Bool) : Type 0 where
    pub each : EachOk marks
    pub past : NonePast map (length nums)

  -- a slot that the map has is free, at a version that is not 0
  abbrev pub FreeAt : ℕ → Type 0
  FreeAt s = usable map s ≡ 1 → (version_at nums s ≡ 0 → ⊥) × (phase_at nums s ≡ free)

  -- lengths that let every slot be read
  pub record Room : Type 0 where
    pub most : length nums ≤ most_slots
    pub of_map : length map ≡ head + words_for (length nums)

-- `used` slots are marked, and each of these is occupied, at a version that is not 0
pub record Listed (nums : List (List ℕ)) (marks : List Bool) (used : ℕ) : Type 0 where
  pub count : count_below (λ s. get_or marks s false) (length nums) ≡ used
  pub most : used ≤ length nums
  pub occupied : (s : ℕ) → get_or marks s false ≡ true → phase_at nums s ≡ live
  pub versioned : (s : ℕ) → get_or marks s false ≡ true → version_at nums s ≡ 0 → ⊥
