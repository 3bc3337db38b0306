-- What a query reports, read from what it returns and from its outputs, and what a circle has to report after deferred calls and maintain.
-- Assumes nothing.
use Rattle.std.specs.Prelude.{◌<◌, ◌≡◌, ◌∷◌, Float}
use Rattle.basics.specs.Words.{ℕ, true, false, List, [], get_or}
use Rattle.geometry.specs.declared.Position.{Position}
use Rattle.geometry.specs.Meaning.Circle.{in_circle}
use Rattle.slots.specs.declared.Handle.{Handle}
use Rattle.slots.specs.Meaning.Slot.{good}
use Rattle.point_records.specs.Meaning.Word.{tracker_at}
use Rattle.point_tables.specs.Meaning.Tables.{Tables, record_on}
use Rattle.point_deferred.specs.Meaning.Calls.{Call, replies}
use Rattle.point_search.specs.Meaning.Searches.{Findings}
use Rattle.whereabouts.specs.Meaning.Whereabouts.{removed_by, last_at}

-- place j of the outputs is one of those that were filled, and has the handle g, the position p, the data d and the tracker k
pub record ReportedAt (o : Findings) (j : ℕ) (g : Handle) (p : Position) (d k : ℕ) : Type 0 where
  pub filled : j < o.returned.count
  pub handle : get_or o.outputs.handles j [] ≡ g.slot ∷ g.version ∷ []
  pub place : get_or o.outputs.places j [] ≡ p.x ∷ p.y ∷ []
  pub obj : get_or o.outputs.objs j [] ≡ d ∷ k ∷ []

abbrev pub Reports : Findings → Handle → Position → ℕ → ℕ → Type 0
Reports o g p d k = (j : ℕ) × ReportedAt o j g p d k

-- a point of the tables t was live before the calls cs and is not removed by them; p is its last accepted position, or where it was, d its
-- data and k its tracker; and the binary32 squared distance of p from the centre is below the binary32 square of the radius
pub record Due (t : Tables) (cs : List Call) (centre : Position) (radius : Float) (g : Handle) (p : Position) (d k : ℕ) : Type 0 where
  pub was-live : good t.nums g.slot g.version ≡ true
  pub not_removed : removed_by g cs (replies t cs) ≡ false
  pub at_last : p ≡ last_at g cs (replies t cs) (record_on t g.slot).position
  pub has_data : d ≡ (record_on t g.slot).obj
  pub has_tracker : k ≡ tracker_at t.nums g.slot
  pub near : in_circle p centre radius ≡ true
