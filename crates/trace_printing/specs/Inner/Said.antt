-- The record that tells an answer: a refusal is its number alone; after 0 come the numbers that there are to tell, and for a query its
-- count and then slot, version, coordinates, data and tracker of each finding of points; slot, version and corners of boxes. Assumes nothing.
-- Here: what only inner contracts cite.
use Rattle.std.specs.Prelude.{◌-◌, ◌≤◌}
use Rattle.basics.specs.Words.{ℕ}
use Rattle.trace_printing.specs.declared.Said.{Said}
use Rattle.trace_printing.specs.declared.Said.TheVariants.{Refused, Done, One, Two, Points, Boxes}
use Rattle.trace_printing.specs.Meaning.Said.{longest}

-- a record without its ending
abbrev pub longest_said : ℕ
longest_said = longest - 2

-- the findings are there, and no more than a trace's grids can give
abbrev pub Told : Said → ℕ → ℕ → ℕ → ℕ → Type 0
Told (Refused a) handles places boxes objs = Unit {0}
Told Done handles places boxes objs = Unit {0}
Told (One x) handles places boxes objs = Unit {0}
Told (Two x y) handles places boxes objs = Unit {0}
Told (Points n) handles places boxes objs = (n ≤ 256) × (n ≤ handles) × (n ≤ places) × (n ≤ objs)
Told (Boxes n) handles places boxes objs = (n ≤ 64) × (n ≤ handles) × (n ≤ boxes)
