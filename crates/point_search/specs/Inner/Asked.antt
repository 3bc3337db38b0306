-- What the inner contracts of a search ask for and say, by name. Assumes nothing.
use Rattle.std.specs.Prelude.{◌+◌, ◌<◌, ◌≤◌, ◌≡◌, ◌++◌, Float, Result, IfOk}
use Rattle.basics.specs.Words.{ℕ, Bool, List, map, length, get_or, take}
use Rattle.basics.specs.Meaning.Limits.{most_slots}
use Rattle.basics.specs.declared.Refusal.{Refusal}
use Rattle.basics.specs.Meaning.Answers.{answer_of}
use Rattle.basics.specs.Meaning.Refusals.{first_of}
use Rattle.geometry.specs.declared.Position.{Position}
use Rattle.cells.specs.declared.Cell.{Cell}
use Rattle.cells.specs.Meaning.CellRule.{cell_at}
use Rattle.point_tables.specs.Meaning.Tables.{Tables, size_of}
use Rattle.point_search.specs.declared.Range.{Range}
use Rattle.cells.specs.Inner.Numbers.{Near}
use Rattle.storage.specs.Meaning.Keyed.{written}
use Rattle.point_search.specs.declared.Part.{Part}
use Rattle.point_search.specs.declared.Test.{Test}
use Rattle.point_search.specs.Meaning.Searches.{Outputs, filling, Findings, range_tests}
use Rattle.point_search.specs.Inner.Places.{places_of, stretch_places}
use Rattle.point_search.specs.Inner.Fill.{finding_at, handle_row_at, place_row_at, obj_row_at, filled, Stocked, Findable}
use Rattle.point_search.specs.Inner.Begun.{Begun}

-- the answer to a range, and where it is not refused the cells of its corners
pub record Ranged (t : Tables) (ok : Bool) (ll ur : Position) (r : Result Range Refusal) : Type 0 where
  pub answer : answer_of r ≡ first_of (range_tests t ok ll ur)
  pub low : IfOk r (λ g. g.a ≡ cell_at (size_of t) ll)
  pub high : IfOk r (λ g. g.b ≡ cell_at (size_of t) ur)

-- what a search asks for: sorted columns, corners near enough, and a slot for each entry in use
abbrev pub Searchable : Cell → Cell → List (List ℕ) → List (List ℕ) → List (List Float) → ℕ → Type 0
Searchable a b nums pool spots used =
    Stocked pool spots used × Near a × Near b × (length nums ≤ most_slots) × ((j : ℕ) → j < used → Findable nums pool spots j)

-- what a search writes and returns
abbrev pub search_fills : Cell → Cell → Test → List (List ℕ) → List (List ℕ) → List (List Float) → ℕ → Outputs → Findings
search_fills a b test nums pool spots used o = filled nums pool spots (places_of a b test pool spots used) o

-- a part has collected the places below its own
abbrev pub BegunBy : Cell → Cell → Test → List (List ℕ) → List (List Float) → Part → List ℕ → Type 0
BegunBy a b test pool spots part array = Begun a b test pool spots part.number part.place array

-- what collecting asks for, from where a part ended
abbrev pub Gatherable : Cell → Cell → Test → List (List ℕ) → List (List Float) → ℕ → Part → List ℕ → Type 0
Gatherable a b test pool spots used part array =
    Stocked pool spots used × Near a × Near b × (part.place ≤ used) × BegunBy a b test pool spots part array × (length array ≤ most_slots)

-- the first r places found are there, each with an entry and its slot
abbrev pub Reportable : List (List ℕ) → List (List ℕ) → List (List Float) → List ℕ → ℕ → Type 0
Reportable nums pool spots found r = (r ≤ length found) × (length nums ≤ most_slots) × ((k : ℕ) → k < r → Findable nums pool spots (get_or found k 0))

-- the outputs after the findings of the places js are written, from place 0 on
abbrev pub Reported : List (List ℕ) → List (List ℕ) → List (List Float) → List ℕ → Outputs → Outputs → Type 0
Reported nums pool spots js o o' = o' ≡ filling (finding_at nums pool spots) js o

-- the same of all that a search is for, and r is their number
abbrev pub SearchReported : Cell → Cell → Test → List (List ℕ) → List (List ℕ) → List (List Float) → ℕ → Outputs → ℕ → Outputs → Type 0
SearchReported a b test nums pool spots used o r o' =
    (r ≡ length (places_of a b test pool spots used)) × Reported nums pool spots (places_of a b test pool spots used) o o'

-- the places of a stretch that pass stand behind the first n; r is the place behind them
abbrev pub StretchGathered : Test → List (List Float) → ℕ → ℕ → ℕ → List ℕ → ℕ → List ℕ → Type 0
StretchGathered test spots from to n places r places' =
    (r ≡ n + length (stretch_places test spots from to)) × (places' ≡ written (take n places ++ stretch_places test spots from to) places)

-- their findings do so in the outputs
abbrev pub StretchReported : Test → List (List ℕ) → List (List ℕ) → List (List Float) → ℕ → ℕ → ℕ → Outputs → ℕ → Outputs → Type 0
StretchReported test nums pool spots from to n o r o' =
    (r ≡ n + length (stretch_places test spots from to))
    × (o'.handles ≡ written (take n o.handles ++ map (handle_row_at nums pool spots) (stretch_places test spots from to)) o.handles)
    × (o'.places ≡ written (take n o.places ++ map (place_row_at nums pool spots) (stretch_places test spots from to)) o.places)
    × (o'.objs ≡ written (take n o.objs ++ map (obj_row_at nums pool spots) (stretch_places test spots from to)) o.objs)

-- every output has n places
abbrev pub RoomFor : ℕ → Outputs → Type 0
RoomFor n o = (n ≤ length o.handles) × (n ≤ length o.places) × (n ≤ length o.objs)

-- what reporting a stretch asks for: room behind the first n findings, and a slot for each entry below its end
abbrev pub StretchReportable : List (List ℕ) → List (List ℕ) → List (List Float) → ℕ → ℕ → ℕ → Outputs → Type 0
StretchReportable nums pool spots from to n o =
    (n ≤ from)
    × (from ≤ to)
    × (to ≤ most_slots)
    × RoomFor to o
    × (length nums ≤ most_slots)
    × ((j : ℕ) → j < to → Findable nums pool spots j)
