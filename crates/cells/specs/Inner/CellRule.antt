-- The cell of a coordinate and of a position. Assumes nothing.
-- Here: what only inner contracts cite.
use Rattle.basics.specs.Words.{T}
use Rattle.geometry.specs.declared.Position.{Position}
use Rattle.geometry.specs.Meaning.Domain.{within}

-- what a cell is asked of: the domain, and the corners of a circle's range, which leave it by at most a radius
abbrev pub Reached : Position → Type 0
Reached p = T (within 21 p.x) × T (within 21 p.y)
