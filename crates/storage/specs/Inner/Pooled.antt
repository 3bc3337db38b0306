-- What a pool's used part is after an entry came in or went, and what each column then is. Assumes nothing.
use Rattle.std.specs.Prelude.{◌≡◌, Float}
use Rattle.basics.specs.Words.{ℕ, List, map, length}
use Rattle.storage.specs.Meaning.Keyed.{written, on_list, append1, take_out}
use Rattle.storage.specs.Meaning.Entries.{Entry, entry, is_item, row_of, spot_of, entry_key, entries_of}

-- the entries, with one more at the end of its key's list
abbrev pub entries_with : ℕ → List ℕ → List Float → List (List ℕ) → List (List Float) → List Entry
entries_with used row spot pool spots = append1 entry_key (entries_of pool spots used) (entry row spot)

-- the entries, with the item's first in the key's list taken out
abbrev pub entries_without : ℕ → ℕ → ℕ → List (List ℕ) → List (List Float) → List Entry
entries_without used key item pool spots = on_list entry_key key (take_out (λ e. is_item item e.row)) (entries_of pool spots used)

-- both columns hold the new entries, and past them what they held before
pub record Columns (new : List Entry) (pool : List (List ℕ)) (spots : List (List Float)) (pool' : List (List ℕ)) (spots' : List (List Float)) : Type 0 where
  pub in_rows : pool' ≡ written (map row_of new) pool
  pub in_spots : spots' ≡ written (map spot_of new) spots

-- what taking an entry out leaves: r entries, and both columns hold them
abbrev pub TakenOut : ℕ → ℕ → ℕ → List (List ℕ) → List (List Float) → List (List ℕ) → List (List Float) → ℕ → Type 0
TakenOut used key item pool spots pool' spots' r =
    (r ≡ length (entries_without used key item pool spots)) × Columns (entries_without used key item pool spots) pool spots pool' spots'
