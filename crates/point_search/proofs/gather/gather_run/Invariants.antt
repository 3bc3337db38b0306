-- `point_search::gather::gather_run`: the places of the stretch below j that pass stand behind the first n. Assumes nothing.
use Rattle.basics.specs.Words.{◌≡◌, length}
use Rattle.storage.specs.Meaning.Keyed.{written}
use Rattle.point_search.specs.Inner.Places.{spot_passes}
use Rattle.point_search.proofs.laws.GatherLaws.{up_to}
use Rattle.point_search.proofs.gather.gather_run.Given as goal

abbrev pub invariant-loop-j : goal.invariant-loop-j
invariant-loop-j l =
    (l.k ≡ length (up_to (spot_passes l.test l.spots) l.from l.n l.fn.places l.j))
    × (l.places ≡ written (up_to (spot_passes l.test l.spots) l.from l.n l.fn.places l.j) l.fn.places)
