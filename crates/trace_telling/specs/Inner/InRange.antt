-- The places and the radius of a request are in the range of the trace. Assumes nothing.
-- Here: what only inner contracts cite.
use Rattle.trace_lines.specs.declared.Request.{Request}
use Rattle.trace_lines.specs.Inner.Texts.{SpotInRange, CountInRange}

abbrev pub InRange : Request → Type 0
InRange r = (SpotInRange r.p × SpotInRange r.q) × CountInRange r.far
