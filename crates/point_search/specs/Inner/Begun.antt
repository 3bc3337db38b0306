-- Places collected as far as an array has room for them. Assumes nothing.
use Rattle.std.specs.Prelude.{◌+◌, ◌-◌, ◌<◌, ◌≤◌, ◌≡◌, ◌++◌, Float}
use Rattle.basics.specs.Words.{ℕ, Bool, List, length, take}
use Rattle.cells.specs.declared.Cell.{Cell}
use Rattle.point_search.specs.declared.Test.{Test}
use Rattle.point_search.specs.Inner.Places.{places_in, places_of}

-- of the stretch from `from` up to `place` the places that pass stand behind the first n of the old array, `number` in all
pub record Gathered (test : ℕ → Bool) (from to n : ℕ) (old : List ℕ) (number place : ℕ) (new : List ℕ) : Type 0 where
  pub onward : from ≤ place
  pub within : place ≤ to
  pub moved : n < length old → from < to → from < place
  pub size : length new ≡ length old
  pub counted : number ≡ n + length (places_in test from (place - from))
  pub collected : take number new ≡ take n old ++ places_in test from (place - from)

-- the first `number` places of an array are those below `place` of the entries that a search is for
pub record Begun (a b : Cell) (test : Test) (pool : List (List ℕ)) (spots : List (List Float)) (number place : ℕ) (array : List ℕ) : Type 0 where
  pub counted : number ≡ length (places_of a b test pool spots place)
  pub collected : take number array ≡ places_of a b test pool spots place
