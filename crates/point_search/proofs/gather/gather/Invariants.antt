-- `point_search::gather::gather`: the places of the entries below the part's own that pass stand in its first places. The measure is what is left of
-- the entries in use. Assumes nothing.
use Rattle.basics.specs.Words.{◌≤◌, ◌-◌, ◌≡◌, length}
use Rattle.point_search.specs.Inner.Asked.{BegunBy}
use Rattle.point_search.proofs.gather.gather.Given as goal

abbrev pub invariant-loop-part : goal.invariant-loop-part
invariant-loop-part l = (l.part.place ≤ l.used) × (length l.places ≡ length l.fn.places) × BegunBy l.fn.a l.fn.b l.test l.pool l.spots l.part l.places

abbrev pub decreases-loop-part : goal.decreases-loop-part
decreases-loop-part l = l.used - l.part.place
