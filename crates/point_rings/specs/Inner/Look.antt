-- The best of the entries that were looked at, by their places in the pool: the nearest to the centre, and of equally near ones that of the lowest
-- slot. Assumes nothing.
use Rattle.std.specs.Prelude.{◌&&◌, ◌||◌, ◌∷◌, Float, None, Some}
use Rattle.basics.specs.Words.{ℕ, Bool, true, List, [], ltb}
use Rattle.std.specs.Float.{binary32}
use Rattle.std.specs.Float.Ieee.{lt, eq, mul}
use Rattle.basics.specs.Meaning.Refusals.{pick}
use Rattle.geometry.specs.declared.Position.{Position}
use Rattle.geometry.specs.Meaning.Circle.{distance_squared}
use Rattle.storage.specs.Meaning.Packed.{first, second}
use Rattle.storage.specs.Inner.Window.{in_range}
use Rattle.point_records.specs.Inner.Listed.{spot_at}
use Rattle.point_search.specs.Inner.Places.{places_in}
use Rattle.point_rings.specs.declared.Best.{Best}

-- the squared distance of the entry at place j
abbrev pub distance_at : Position → List (List Float) → ℕ → Float
distance_at c spots j = distance_squared (spot_at spots j) c

-- none yet: only what is nearer than the radius can be better, for no slot is below 0
abbrev pub no_best : Float → Best
no_best r = record { place = None; slot = 0; distance = mul binary32 r r }

abbrev pub best_at : Position → List (List ℕ) → List (List Float) → ℕ → Best
best_at c pool spots j = record { place = Some j; slot = second pool j; distance = distance_at c spots j }

-- a squared distance and a slot that are better than the best
abbrev pub closer : Float → ℕ → Best → Bool
closer d s b = lt d b.distance || (eq d b.distance && ltb s b.slot)

unfoldable pub better : Position → List (List ℕ) → List (List Float) → Best → ℕ → Best
better c pool spots b j = pick (closer (distance_at c spots j) (second pool j) b) (best_at c pool spots j) b

-- the best after the entries at some places, looked at one after the other
unfoldable pub looked : Position → List (List ℕ) → List (List Float) → List ℕ → Best → Best
looked c pool spots [] b = b
looked c pool spots (j ∷ js) b = looked c pool spots js (better c pool spots b j)

-- the best of those entries in use whose places pass a test
abbrev pub best_of : Position → Float → List (List ℕ) → List (List Float) → ℕ → (ℕ → Bool) → Best
best_of c r pool spots used test = looked c pool spots (places_in test 0 used) (no_best r)

abbrev pub every : ℕ → Bool
every j = true

-- the places of the entries in use whose keys lie in a window
unfoldable pub window_places : ℕ → ℕ → List (List ℕ) → ℕ → List ℕ
window_places low high pool used = places_in (λ j. in_range low high (first pool j)) 0 used
