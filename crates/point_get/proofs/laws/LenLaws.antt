-- The handles are as many as the live slots, and these as the entries in use. Assumes nothing.
use Rattle.basics.specs.Words.{◌≡◌, ◌∙◌, length, length-map}
use Rattle.point_tables.specs.Meaning.Tables.{Tables, used_of}
use Rattle.point_tables.specs.Meaning.Holds.{Holds}
use Rattle.point_tables.proofs.laws.CountLaws.{live-count}
use Rattle.slot_walks.specs.Meaning.Live.{live_from, handle_at}
use Rattle.slot_walks.proofs.laws.LiveLaws as Live
use Rattle.point_get.specs.Meaning.{live_handles}

pub len-live : (t : Tables) → length (live_handles t) ≡ length (live_from 0 t.nums)
unfolding live_handles
len-live t = length-map (live_from 0 t.nums) (handle_at t.nums)

pub len-used : (t : Tables) → Holds t → length (live_handles t) ≡ used_of t
len-used t h = len-live t ∙ Live.live-count t.nums ∙ live-count t h
