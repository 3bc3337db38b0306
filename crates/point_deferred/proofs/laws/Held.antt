-- A deferred call on tables that are known to hold a grid: what the working code does. `HeldLaws` shows that it is the call. The pool and
-- its positions are neither read nor written, so that the tables may be without them. Assumes nothing.
-- Here: the laws.
use Rattle.basics.specs.Words.{ℕ, List}
use lib.Ieee.{Float}
use Rattle.point_tables.specs.Meaning.Tables.{Tables, tables}

-- tables with a pool
abbrev pub with_pool : Tables → List (List ℕ) → List (List Float) → Tables
with_pool t pool spots = tables t.nums t.reals t.ints t.map pool spots t.cells
