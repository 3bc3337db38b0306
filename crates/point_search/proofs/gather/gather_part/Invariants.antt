-- `point_search::gather::gather_part`: the places of the run below j that pass stand behind the first n. The measure is what is left of the run.
-- Assumes nothing.
use Rattle.basics.specs.Words.{◌≤◌, ◌+◌, ◌-◌, ◌≡◌, ◌++◌, length, take}
use Rattle.point_search.specs.Inner.Places.{places_in, spot_passes}
use Rattle.point_search.proofs.gather.gather_part.Given as goal

abbrev pub invariant-loop-j : goal.invariant-loop-j
invariant-loop-j l =
    (l.from ≤ l.j)
    × (l.j ≤ l.to)
    × (length l.places ≡ length l.fn.places)
    × (l.k ≡ l.n + length (places_in (spot_passes l.test l.spots) l.from (l.j - l.from)))
    × (take l.k l.places ≡ take l.n l.fn.places ++ places_in (spot_passes l.test l.spots) l.from (l.j - l.from))

abbrev pub decreases-loop-j : goal.decreases-loop-j
decreases-loop-j l = l.to - l.j
