-- An entry of a list out of the two columns, and the row that it takes in each. pool: cell key, slot. spots: x, y.
-- The storage, which is below objects and moves rows unread, has the same entry as its two rows: storage/specs/Entries. Assumes nothing.
use Rattle.std.specs.Prelude.{◌∷◌, Float}
use Rattle.basics.specs.Words.{ℕ, List, [], get_or}
use Rattle.geometry.specs.declared.Position.{Position}
use Rattle.point_records.specs.declared.Entry.{Entry}
use Rattle.point_records.specs.Meaning.Columns.{position_in}

-- the position of the entry at place j
abbrev pub spot_at : List (List Float) → ℕ → Position
spot_at spots j = position_in (get_or spots j [])

-- the entry at place j: its slot and its position
abbrev pub listed_at : List (List ℕ) → List (List Float) → ℕ → Entry
listed_at pool spots j = record { slot = get_or (get_or pool j []) 1 0; position = spot_at spots j }

-- the rows of an entry in the list of a key
abbrev pub entry_row : ℕ → Entry → List ℕ
entry_row key e = key ∷ e.slot ∷ []

abbrev pub entry_spot : Entry → List Float
entry_spot e = e.position.x ∷ e.position.y ∷ []
