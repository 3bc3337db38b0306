-- `point_rings::look::look_window`: the best so far is that of the window's places below i. The measure is what is left of the entries in use.
-- Assumes nothing.
use Rattle.basics.specs.Words.{◌≤◌, ◌-◌, ◌≡◌}
use Rattle.point_rings.specs.Inner.Look.{looked, window_places}
use Rattle.point_rings.proofs.look.look_window.Given as goal

abbrev pub invariant-loop-i : goal.invariant-loop-i
invariant-loop-i l = (l.i ≤ l.used) × (l.best ≡ looked l.centre l.pool l.spots (window_places l.low l.high l.pool l.i) l.fn.best)

abbrev pub decreases-loop-i : goal.decreases-loop-i
decreases-loop-i l = l.used - l.i
