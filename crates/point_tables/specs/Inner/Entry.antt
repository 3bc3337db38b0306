-- The entries in use, by places, and the tables that entries are written to. Assumes nothing.
-- Here: what only inner contracts cite.
use Rattle.basics.specs.Words.{ℕ, List, [], get_or}
use Rattle.std.specs.Prelude.{Float}
use Rattle.storage.specs.Meaning.Entries.{Entry, entry}

-- the entry at place j of the two columns
abbrev pub entry_at : List (List ℕ) → List (List Float) → ℕ → Entry
entry_at pool spots j = entry (get_or pool j []) (get_or spots j [])
