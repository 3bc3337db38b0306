-- The places of the pool whose entries a search is for, ascending. Assumes nothing.
use Rattle.std.specs.Prelude.{◌+◌, ◌-◌, ◌&&◌, ◌∷◌, ◌++◌, Float}
use Rattle.basics.specs.Words.{ℕ, zero, suc, Bool, List, []}
use Rattle.basics.specs.Meaning.Refusals.{pick}
use Rattle.cells.specs.declared.Cell.{Cell}
use Rattle.storage.specs.Meaning.Entries.{Entry, entry_key}
use Rattle.storage.specs.Inner.Window.{window_of}
use Rattle.point_records.specs.Inner.Listed.{spot_at}
use Rattle.point_search.specs.Meaning.Searches.{passes, position_of}
use Rattle.point_search.specs.declared.Test.{Test}
use Rattle.point_tables.specs.Inner.Entry.{entry_at}

-- of n places from `from` on, those that pass
unfoldable pub places_in : (ℕ → Bool) → ℕ → ℕ → List ℕ
places_in test from zero = []
places_in test from (suc n) = places_in test from n ++ pick (test (from + n)) ((from + n) ∷ []) []

-- an entry whose cell is in the range from a to b, and whose position passes
abbrev pub wanted : Cell → Cell → Test → Entry → Bool
wanted a b test e = window_of a b (entry_key e) && passes test (position_of e)

abbrev pub wanted_at : Cell → Cell → Test → List (List ℕ) → List (List Float) → ℕ → Bool
wanted_at a b test pool spots j = wanted a b test (entry_at pool spots j)

-- the spot at place j passes
abbrev pub spot_passes : Test → List (List Float) → ℕ → Bool
spot_passes test spots j = passes test (spot_at spots j)

-- the places of a stretch whose spots pass
abbrev pub stretch_places : Test → List (List Float) → ℕ → ℕ → List ℕ
stretch_places test spots from to = places_in (spot_passes test spots) from (to - from)

-- the places below `used` of the entries that a search is for
unfoldable pub places_of : Cell → Cell → Test → List (List ℕ) → List (List Float) → ℕ → List ℕ
places_of a b test pool spots used = places_in (wanted_at a b test pool spots) 0 used
