-- Slots settled one after the other: those of a list, those below n that pass a test, and every live one. Assumes nothing.
-- Here: what only inner contracts cite.
use Rattle.std.specs.Prelude.{◌+◌, ◌≡◌}
use Rattle.basics.specs.Words.{ℕ, zero, suc, Bool, length}
use Rattle.basics.specs.Meaning.Refusals.{pick}
use Rattle.point_tables.specs.Meaning.Tables.{Tables, slots_of}
use Rattle.point_tables.specs.Inner.Count.{is_live}
use Rattle.point_maintain.specs.Meaning.Walk.{settled}
use Rattle.slots.specs.Meaning.Map.{head, words_for}

unfoldable pub settled_in : (ℕ → Bool) → ℕ → Tables → Tables
settled_in test zero t = t
settled_in test (suc n) t = pick (test n) (settled (settled_in test n t) n) (settled_in test n t)

unfoldable pub settled_all : Tables → Tables
unfolding settled_in
settled_all t = settled_in (is_live t) (slots_of t) t

-- a row of each kind for each slot, and a bit
pub record Shaped (t : Tables) : Type 0 where
  pub of_reals : length t.reals ≡ slots_of t
  pub of_ints : length t.ints ≡ slots_of t
  pub of_map : length t.map ≡ head + words_for (slots_of t)
