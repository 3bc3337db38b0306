-- The tracker that a point belongs to, one of eight, and what is asked of a call that names one. Assumes nothing.
use Rattle.std.specs.Prelude.{◌∷◌}
use Rattle.basics.specs.Words.{ℕ, List, [], eqb, leb}
use Rattle.basics.specs.Meaning.Refusals.{Refusal, unless, pick}
use Rattle.slots.specs.declared.Handle.{Handle}
use Rattle.slots.specs.Meaning.Slot.{handle_test}
use Rattle.point_records.specs.declared.Tracker.{Tracker}
use Rattle.point_records.specs.declared.Tracker.TheVariants.{T0, T1, T2, T3, T4, T5, T6, T7}
use Rattle.point_records.specs.Meaning.Word.{tracker_at}

abbrev pub last_tracker : ℕ
last_tracker = 7

-- its number, 0 to 7
abbrev pub tracker_number : Tracker → ℕ
tracker_number T0 = 0
tracker_number T1 = 1
tracker_number T2 = 2
tracker_number T3 = 3
tracker_number T4 = 4
tracker_number T5 = 5
tracker_number T6 = 6
tracker_number T7 = 7

-- the tracker of a number from 0 to 7; for a larger one, which 13 keeps out of every call, the last
abbrev pub tracker_of : ℕ → Tracker
tracker_of k =
    pick (eqb k 0) T0 (pick (eqb k 1) T1 (pick (eqb k 2) T2 (pick (eqb k 3) T3 (pick (eqb k 4) T4 (pick (eqb k 5) T5 (pick (eqb k 6) T6 T7))))))

-- ---- 13: the number is that of no tracker. 14: the point of a good handle is another tracker's
abbrev pub tracker_test : ℕ → Refusal
tracker_test k = unless (leb k last_tracker) 13

abbrev pub owner_test : List (List ℕ) → Handle → ℕ → Refusal
owner_test nums h k = unless (eqb (tracker_at nums h.slot) k) 14

-- every call that moves or removes a point has these in their place
abbrev pub own_tests : List (List ℕ) → Handle → ℕ → List Refusal
own_tests nums h k = tracker_test k ∷ handle_test nums h ∷ owner_test nums h k ∷ []
