-- What a stretch of the range adds to the places. Assumes nothing.
use Rattle.basics.specs.Words.{ℕ, ◌-◌, ◌<◌, ◌≤◌, ◌≡◌, sym, ap, ◌∙◌, Bool, true, false, ◌&&◌, List, ◌++◌, length}
use lib.Ieee.{Float}
use Rattle.cells.specs.declared.Cell.{Cell}
use Rattle.cells.specs.Inner.Numbers.{Near}
use Rattle.cells.proofs.laws.Numbers.{near_fits}
use Rattle.cells.specs.Meaning.Key.{key_of}
use Rattle.cells.specs.Inner.Key.{column_of, line_of}
use Rattle.storage.specs.declared.Run.{Run}
use Rattle.storage.specs.Meaning.Packed.{first}
use Rattle.storage.specs.Inner.Window.{in_window}
use Rattle.storage.specs.Inner.Window.{window_of}
use Rattle.storage.specs.Inner.Run.{NextRun}
use Rattle.storage.proofs.laws.RunStepLaws.{key_windows}
use Rattle.point_search.specs.declared.Test.{Test}
use Rattle.point_search.specs.Inner.Places.{places_in, wanted_at, spot_passes, places_of}
use Rattle.point_search.proofs.laws.PlacesLaws.{places_stretch, places-length}

module _ (a b : Cell) (test : Test) (pool : List (List ℕ)) (spots : List (List Float)) where
  abbrev W : ℕ → Bool
  W = wanted_at a b test pool spots

  outside : (j : ℕ) → window_of a b (first pool j) ≡ false → W j ≡ false
  outside j e = ap (λ (w : Bool). w && spot_passes test spots j) e

  inside : (j : ℕ) → window_of a b (first pool j) ≡ true → W j ≡ spot_passes test spots j
  inside j e = ap (λ (w : Bool). w && spot_passes test spots j) e

  -- the places before a stretch, and those of the stretch
  stretch : (i from to : ℕ) → i ≤ from → from ≤ to
      → ((j : ℕ) → i ≤ j → j < from → window_of a b (first pool j) ≡ false) → ((j : ℕ) → from ≤ j → j < to → window_of a b (first pool j) ≡ true)
      → places_of a b test pool spots to ≡ places_of a b test pool spots i ++ places_in (spot_passes test spots) from (to - from)
  unfolding places_of
  stretch i from to h k none all = places_stretch W (spot_passes test spots) i from to h k (λ j p q. outside j (none j p q)) (λ j p q. inside j (all j p q))

  pub places-most : (n : ℕ) → length (places_of a b test pool spots n) ≤ n
  unfolding places_of
  places-most n = places-length W 0 n

module _ (a b : Cell) (na : Near a) (nb : Near b) (test : Test) (pool : List (List ℕ)) (spots : List (List Float)) (used i low high : ℕ) (r : Run)
    (el : low ≡ key_of a) (eh : high ≡ key_of b) (n : NextRun pool used i (column_of low) (line_of low) (column_of high) (line_of high) r) where
  -- the window between the two keys is that of the cells
  own : (k : ℕ) → window_of a b k ≡ in_window (column_of low) (line_of low) (column_of high) (line_of high) k
  own k = sym ((λ z. in_window (column_of (el z)) (line_of (el z)) (column_of (eh z)) (line_of (eh z)) k) ∙ key_windows a b (near_fits a na) (near_fits b nb) k)

  -- what a run of the walk adds
  pub places-run : places_of a b test pool spots r.to ≡ places_of a b test pool spots i ++ places_in (spot_passes test spots) r.from (r.to - r.from)
  places-run = stretch a b test pool spots i r.from r.to n.onward n.ends (λ j p q. own (first pool j) ∙ n.passed j p q) (λ j p q. own (first pool j) ∙ n.taken j p q)
