-- What is written of the places that a search collected is what the search finds. Assumes nothing.
use Rattle.basics.specs.Words.{ℕ, ◌+◌, ◌<◌, ◌≤◌, ◌≡◌, sym, ap, ◌∙◌, subst, Bool, true, List, map, map-map, length, get_or, drop, length-map, get_or-append}
use Rattle.basics.specs.Words.{leb, arith, leb-true, leb-false, le-leb, lt-leb}
use lib.Ieee.{Float}
use Rattle.basics.specs.Meaning.Limits.{most_cells}
use Rattle.geometry.specs.declared.Position.{Position}
use Rattle.cells.specs.declared.Cell.{Cell}
use Rattle.cells.specs.Meaning.CellRule.{cell_at}
use Rattle.cells.specs.Inner.CellRule.{Reached}
use Rattle.cells.specs.Meaning.Range.{cells_in}
use Rattle.storage.specs.Meaning.Keyed.{All, written}
use Rattle.storage.specs.Meaning.Entries.{Entry}
use Rattle.storage.proofs.laws.FilterLaws.{by_test, all_map, all_at}
use Rattle.point_tables.specs.Meaning.Tables.{Tables, size_of, used_of}
use Rattle.point_tables.specs.Meaning.Holds.{Holds}
use Rattle.point_tables.specs.Meaning.Decide.{holds, holds_says}
use Rattle.point_search.specs.declared.Finding.{Finding}
use Rattle.point_search.specs.declared.Test.{Test}
use Rattle.point_search.specs.Meaning.Searches.{found, finding_on, handle_row, place_row, obj_row, Outputs, outputs, room, filling, Findings, findings, report_of}
use Rattle.point_search.specs.Meaning.Searches.{search_of}
use Rattle.point_search.specs.Inner.Places.{wanted_at, places_of}
use Rattle.point_search.proofs.laws.PlacesLaws.{places-inside}
use Rattle.point_search.specs.Inner.Fill.{finding_at, filled, Stocked, Findable}
use Rattle.point_search.proofs.laws.FoundLaws.{in_pool, in_spots, rows-sorted, found-places}
use Rattle.point_search.proofs.laws.FindLaws.{search_9, search_0}
use Rattle.replies.specs.Meaning.Replies.{count}
use Rattle.point_tables.specs.Inner.Entry.{entry_at}

module _ (nums pool : List (List ℕ)) (spots : List (List Float)) (js : List ℕ) (o : Outputs) where
  filled_0 : length js ≤ room o → report_of (finding_at nums pool spots) js o ≡ filled nums pool spots js o
  unfolding filled
  filled_0 l = simp (le-leb (length js) (room o) l)

  pub filled_9 : room o < length js → findings (count 9 (length js)) o ≡ filled nums pool spots js o
  unfolding filled
  filled_9 l = simp (lt-leb (length js) (room o) l)

  -- what was written of the places
  pub filled_put : (r : ℕ) (o' : Outputs) → r ≡ length js → o' ≡ filling (finding_at nums pool spots) js o → r ≤ room o → findings (count 0 r) o' ≡ filled nums pool spots js o
  filled_put r o' er eo l =
      let e : findings (count 0 r) o' ≡ report_of (finding_at nums pool spots) js o = λ z. findings (count 0 (er z)) (eo z) in
      e ∙ filled_0 (omega arith)

-- what is reported of the images of a list
reported_map : {A B : Type 0} (report : B → Finding) (g : A → B) (l : List A) (o : Outputs) → report_of report (map g l) o ≡ report_of (λ a. report (g a)) l o
reported_map report g l o =
    λ z.
    findings (count 0 (length-map l g z))
    (outputs
    (written (map-map (λ b. handle_row (report b)) g l z) o.handles)
    (written (map-map (λ b. place_row (report b)) g l z) o.places)
    (written (map-map (λ b. obj_row (report b)) g l z) o.objs))

module _ (t : Tables) (h : Holds t) where
  pub stocked : Stocked t.pool t.spots (used_of t)
  stocked = record { most = omega (arith, h.counted.used-most, h.sized.most); in_pool = in_pool t h; in_spots = in_spots t h; sorted = rows-sorted t h }

  pub findable : (j : ℕ) → j < used_of t → Findable t.nums t.pool t.spots j
  findable j l = record { in_pool = omega (arith, in_pool t h); in_spots = omega (arith, in_spots t h); in_nums = (h.lists.each j l).inside }

-- the places are places of entries in use
pub places-used : (a b : Cell) (test : Test) (pool : List (List ℕ)) (spots : List (List Float)) (used : ℕ) → All (λ j. j < used) (places_of a b test pool spots used)
unfolding places_of
places-used a b test pool spots used =
    all_map (λ j. j < 0 + used) (λ j. j < used) (λ j l. omega arith) (places_of a b test pool spots used) (places-inside (wanted_at a b test pool spots) 0 used)

-- an array fs whose first n places are js
module _ (js o fs : List ℕ) (n : ℕ) (en : n ≡ length js) (ef : fs ≡ written js o) where
  pub array_each : (P : ℕ → Type 0) → All P js → (k : ℕ) → k < n → P (get_or fs k 0)
  array_each P f k l =
      let m : k < length js = omega arith in
      subst P (sym (ap (λ (l : List ℕ). get_or l k 0) ef ∙ get_or-append js (drop (length js) o) 0 k m)) (all_at P 0 js k m f)

module _ (t : Tables) (ok : Bool) (ll ur : Position) (test : Test) (o : Outputs) where
  abbrev js : List ℕ
  js = places_of (cell_at (size_of t) ll) (cell_at (size_of t) ur) test t.pool t.spots (used_of t)

  module _ (held : holds t ≡ true) (rl : Reached ll) (ru : Reached ur) where
    found_js : found t ll ur test ≡ map (entry_at t.pool t.spots) js
    found_js = found-places t ((holds_says t).yes held) ll ur rl ru test

    number_js : length (found t ll ur test) ≡ length js
    number_js = ap length found_js ∙ length-map js (entry_at t.pool t.spots)

    reported_js : report_of (finding_on t) (found t ll ur test) o ≡ report_of (finding_at t.nums t.pool t.spots) js o
    reported_js =
        ap (λ (es : List Entry). report_of (finding_on t) es o) found_js
        ∙ reported_map (finding_on t) (entry_at t.pool t.spots) js o

    search_filled : ok ≡ true → cells_in (cell_at (size_of t) ll) (cell_at (size_of t) ur) ≤ most_cells
        → filled t.nums t.pool t.spots js o ≡ search_of t ok ll ur test o
    search_filled g l =
        let n = room o in
        by_test (leb (length js) n)
        (λ q.
        let m = leb-true (length js) n q in
        sym (filled_0 t.nums t.pool t.spots js o m)
        ∙ sym reported_js
        ∙ search_0 t ok ll ur test o held g l (omega (arith, number_js, m)))
        (λ q.
        let m = leb-false (length js) n q in
        sym (filled_9 t.nums t.pool t.spots js o m)
        ∙ sym (ap (λ (n : ℕ). findings (count 9 n) o) number_js)
        ∙ search_9 t ok ll ur test o held g l (omega (arith, number_js, m)))

    -- the same of two cells and a number that are those of the range and of the tables
    pub search_done : (f : Findings) (a b : Cell) (used : ℕ) → a ≡ cell_at (size_of t) ll → b ≡ cell_at (size_of t) ur → used ≡ used_of t
        → f ≡ filled t.nums t.pool t.spots (places_of a b test t.pool t.spots used) o
        → ok ≡ true → cells_in (cell_at (size_of t) ll) (cell_at (size_of t) ur) ≤ most_cells → f ≡ search_of t ok ll ur test o
    search_done f a b used ea eb eu ef g l =
        ef
        ∙ (λ z. filled t.nums t.pool t.spots (places_of (ea z) (eb z) test t.pool t.spots (eu z)) o)
        ∙ search_filled g l
