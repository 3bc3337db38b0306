-- What is reported of the best entry, and how many rings are looked at in the tables of a grid. Assumes nothing.
use Rattle.std.specs.Prelude.{◌≤◌, ◌≡◌, Float, Option, None, Some, IfSome}
use Rattle.basics.specs.Words.{ℕ, List, length}
use Rattle.basics.specs.Meaning.Limits.{most_slots}
use Rattle.geometry.specs.declared.Position.{Position}
use Rattle.point_tables.specs.Meaning.Tables.{Tables, size_of, used_of}
use Rattle.point_search.specs.Inner.Fill.{finding_at, Findable}
use Rattle.point_rings.specs.declared.Best.{Best}
use Rattle.point_rings.specs.Inner.Rings.{rings_of}
use Rattle.replies.specs.declared.Nearest.{Nearest}
use Rattle.point_nearest.specs.declared.Ringed.{Ringed}
use Rattle.point_nearest.specs.Meaning.Nearest.{nearest_reply, no_finding, nearest_of}

-- of the best entry, by its place; none where it has no place
abbrev pub told_at : List (List ℕ) → List (List ℕ) → List (List Float) → Option ℕ → Nearest
told_at nums pool spots None = nearest_reply 0 0 no_finding
told_at nums pool spots (Some j) = nearest_reply 0 1 (finding_at nums pool spots j)

abbrev pub told_of : List (List ℕ) → List (List ℕ) → List (List Float) → Best → Nearest
told_of nums pool spots b = told_at nums pool spots b.place

-- there is an entry at the best's place, if it has one, and its slot is one of the slots
abbrev pub Tellable : List (List ℕ) → List (List ℕ) → List (List Float) → Best → Type 0
Tellable nums pool spots b = (length nums ≤ most_slots) × IfSome b.place (λ j. Findable nums pool spots j)

-- ---- what is nearest, and where the call is not refused the number of rings
pub record RingedBy (t : Tables) (c : Position) (r : Float) (w : Ringed) : Type 0 where
  pub nearest : w.nearest ≡ nearest_of t c r
  pub rings : w.nearest.answer ≡ 0 → w.rings ≡ rings_of (size_of t) c r t.pool t.spots (used_of t)
