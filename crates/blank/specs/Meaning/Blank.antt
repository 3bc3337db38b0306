-- Slots that are all free: every row at version 1, every bit of the map set and none past the last slot. Assumes nothing.
use Rattle.std.specs.Prelude.{◌-◌, ◌^◌, ◌&&◌, ◌∷◌}
use Rattle.basics.specs.Words.{ℕ, zero, suc, Bool, List, [], replicate, leb}
use Rattle.basics.specs.Meaning.Refusals.{Refusal, unless, pick}
use Rattle.slots.specs.Meaning.Map.{words_for}
use Rattle.slots.specs.Meaning.Slot.{free}

-- a word with a bit set for each of its slots, of which n are left
abbrev pub free_word : ℕ → ℕ
free_word n = pick (leb 64 n) (2 ^ 64 - 1) (2 ^ n - 1)

-- k words for n slots
abbrev pub free_words : ℕ → ℕ → List ℕ
free_words zero n = []
free_words (suc k) n = free_word n ∷ free_words k (n - 64)

-- the rows of n slots
abbrev pub blank_nums : ℕ → List (List ℕ)
blank_nums n = replicate n (1 ∷ free ∷ 0 ∷ 0 ∷ [])

-- the map of n slots of a grid with no entry
abbrev pub blank_map : ℕ → ℕ → List ℕ
blank_map n size = size ∷ 0 ∷ 0 ∷ free_words (words_for n) n

-- whether a cell size is in its limits
abbrev pub size_ok : ℕ → Bool
size_ok size = leb 1 size && leb size 1048576

-- the tests of building, for tables that have the lengths of a grid or not
abbrev pub build_tests : Bool → ℕ → List Refusal
build_tests sized size = unless sized 3 ∷ unless (size_ok size) 2 ∷ []
