-- The live slots are as many as the entries in use. Assumes nothing.
use Rattle.basics.specs.Words.{◌≡◌, ◌∙◌, length}
use Rattle.point_tables.specs.Meaning.Tables.{Tables, used_of}
use Rattle.point_tables.specs.Meaning.Holds.{Holds}
use Rattle.point_tables.proofs.laws.CountLaws.{live-count}
use Rattle.slot_walks.proofs.laws.LiveLaws as Live
use Rattle.point_clear.specs.Meaning.Clear.{live_slots}

pub live-used : (t : Tables) → Holds t → length (live_slots t) ≡ used_of t
unfolding live_slots
live-used t h = Live.live-count t.nums ∙ live-count t h
