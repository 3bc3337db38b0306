-- `point_search::fill::put_run`: the rows of the places of the stretch below j that pass stand behind the first n. Assumes nothing.
use Rattle.basics.specs.Words.{◌+◌, ◌≡◌, ◌++◌, map, length, take}
use Rattle.storage.specs.Meaning.Keyed.{written}
use Rattle.point_search.specs.Inner.Places.{spot_passes}
use Rattle.point_search.specs.Inner.Fill.{handle_row_at, place_row_at, obj_row_at}
use Rattle.point_search.proofs.laws.PlacesLaws.{passed}
use Rattle.point_search.proofs.fill.put_run.Given as goal

abbrev pub invariant-loop-j : goal.invariant-loop-j
invariant-loop-j l =
    (l.k ≡ l.n + length (passed (spot_passes l.test l.spots) l.from l.j))
    × (l.handles ≡ written (take l.n l.fn.handles ++ map (handle_row_at l.nums l.pool l.spots) (passed (spot_passes l.test l.spots) l.from l.j)) l.fn.handles)
    × (l.places ≡ written (take l.n l.fn.places ++ map (place_row_at l.nums l.pool l.spots) (passed (spot_passes l.test l.spots) l.from l.j)) l.fn.places)
    × (l.objs ≡ written (take l.n l.fn.objs ++ map (obj_row_at l.nums l.pool l.spots) (passed (spot_passes l.test l.spots) l.from l.j)) l.fn.objs)
