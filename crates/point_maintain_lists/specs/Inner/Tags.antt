-- What becomes of an entry in the walk of its list, as its slot's tag says: 0 it stays, 1 it stays at the pending position, else it leaves.
-- Assumes nothing.
use Rattle.std.specs.Prelude.{◌∷◌, Float}
use Rattle.basics.specs.Words.{ℕ, List, [], get_or, eqb}
use Rattle.std.specs.Float.{nan}
use Rattle.basics.specs.Meaning.Refusals.{pick}
use Rattle.storage.specs.Meaning.Entries.{Entry, entry}
use Rattle.point_records.specs.Meaning.Word.{tag_in}
use Rattle.point_tables.specs.Meaning.Tables.{slot_of}
use Rattle.point_maintain.specs.Meaning.Walk.{Fate, stays, leaves}

-- the position that an entry of a slot with row q has, if it stays
abbrev pub spot_by : ℕ → List Float → List Float → List Float
spot_by tag q spot = pick (eqb tag 1) (get_or q 2 nan ∷ get_or q 3 nan ∷ []) spot

abbrev pub fate_of_tag : ℕ → List Float → Entry → Fate
fate_of_tag tag q e = pick (eqb tag 0) (stays e) (pick (eqb tag 1) (stays (entry e.row (get_or q 2 nan ∷ get_or q 3 nan ∷ []))) (leaves []))

abbrev pub tag_on : List (List ℕ) → Entry → ℕ
tag_on nums e = tag_in (get_or nums (slot_of e) [])

abbrev pub fate_in : List (List ℕ) → List (List Float) → Entry → Fate
fate_in nums reals e = fate_of_tag (tag_on nums e) (get_or reals (slot_of e) []) e
