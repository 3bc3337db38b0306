-- The fourth number of a slot's row, its word: four times the number of the object's tracker plus the tag of its state. Assumes nothing.
use Rattle.std.specs.Prelude.{◌+◌, ◌*◌, ◌/◌, ◌%◌}
use Rattle.basics.specs.Words.{ℕ, List, [], get_or, leb}
use Rattle.point_records.specs.declared.Parts.{Parts}

-- no occupied slot has a larger one: tracker 7 and tag 3
abbrev pub last_word : ℕ
last_word = 31

-- made of a tracker's number and a tag, and taken apart: nothing else takes it apart
abbrev pub word_of : ℕ → ℕ → ℕ
word_of tracker tag = 4 * tracker + tag

abbrev pub parts_of : ℕ → Parts
parts_of w = record { fits = leb w last_word; tracker = w / 4 % 8; tag = w % 4 }

-- of a row
abbrev pub word_in : List ℕ → ℕ
word_in n = get_or n 3 0

abbrev pub tag_in : List ℕ → ℕ
tag_in n = (parts_of (word_in n)).tag

abbrev pub tracker_in : List ℕ → ℕ
tracker_in n = (parts_of (word_in n)).tracker

-- of slot s
abbrev pub word_at : List (List ℕ) → ℕ → ℕ
word_at nums s = word_in (get_or nums s [])

abbrev pub tag_at : List (List ℕ) → ℕ → ℕ
tag_at nums s = tag_in (get_or nums s [])

abbrev pub tracker_at : List (List ℕ) → ℕ → ℕ
tracker_at nums s = tracker_in (get_or nums s [])
