-- Columns with the same records: what the unused places of a row hold does not matter. Assumes nothing.
-- Here: the laws.
use Rattle.basics.specs.Words.{ℕ, ◌≤◌, ◌≡◌, List}
use Rattle.point_tables.specs.Meaning.Tables.{Tables}
use Rattle.point_tables.specs.Meaning.Holds.{Holds}
use Rattle.point_tables.specs.Meaning.Outcome.{Outcome}
use Rattle.records.specs.Inner.Alike.{Alike}
use Rattle.point_records.specs.Meaning.Word.{last_word, word_at}

-- every word is of a tracker and a tag, as in columns that were spread
abbrev pub Worded : List (List ℕ) → Type 0
Worded ns = (s : ℕ) → word_at ns s ≤ last_word

-- a call answers the same on tables of a grid that are alike, and leaves tables that are alike
abbrev pub Respects : {R : Type 0} → (Tables → Outcome R) → Type 0
Respects call = (t u : Tables) → Holds t → Holds u → Alike t u → ((call t).result ≡ (call u).result) × Alike (call t).after (call u).after

-- a call that only reads answers the same
abbrev pub Reads : {R : Type 0} → (Tables → R) → Type 0
Reads call = (t u : Tables) → Holds t → Holds u → Alike t u → call t ≡ call u
