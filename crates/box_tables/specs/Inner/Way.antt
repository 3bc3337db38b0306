-- The way of a box through the cells that it covers, as the check goes it: the key that comes next, the last key, the step from the end of
-- a row to the start of the row above, and the item. Assumes nothing.
-- Here: what only inner contracts cite.
use Rattle.std.specs.Prelude.{◌+◌, ◌-◌, ◌≤◌, ◌≡◌, ◌∷◌, Float}
use Rattle.basics.specs.Words.{ℕ, false, List, [], get_or, eqb}
use Rattle.basics.specs.Meaning.Refusals.{pick}
use Rattle.geometry.specs.declared.Aabb.{Aabb}
use Rattle.cells.specs.declared.Cell.{Cell}
use Rattle.cells.specs.Inner.Numbers.{Near}
use Rattle.cells.specs.Inner.Key.{column_of}
use Rattle.cells.specs.Meaning.Key.{upward, key_of}
use Rattle.cells.specs.Meaning.Range.{cells_in}
use Rattle.slots.specs.Meaning.Slot.{live, phase_at}
use Rattle.box_tables.specs.declared.Span.{Span}
use Rattle.box_tables.specs.declared.way.Way.{Way}
use Rattle.box_tables.specs.Meaning.Tables.{aabb_at, low_cell, high_cell, covers, item_of}

-- ---- one key on: the next number, or at the last column the start of the row above
abbrev pub behind : ℕ → ℕ → ℕ → ℕ
behind stop jump k = pick (eqb (column_of k) stop) (k + jump) (k + 1)

-- these keys are what is to come from k on, up to the end
abbrev pub ToCome : ℕ → ℕ → ℕ → ℕ → List ℕ → Type 0
ToCome stop jump end k [] = k ≡ end
ToCome stop jump end k (x ∷ l) = (x ≡ k) × ToCome stop jump end (behind stop jump k) l

-- ---- a way as the pass over the entries goes it: the key that comes next, the last column, the step, and the end, which is the key behind the last
abbrev pub track_of : Way → List ℕ
track_of way = way.first ∷ column_of way.last ∷ way.jump ∷ (way.last + way.jump) ∷ []

abbrev pub OnTrack : List ℕ → List ℕ → Type 0
OnTrack row l = ToCome (get_or row 1 0) (get_or row 2 0) (get_or row 3 0) (get_or row 0 0) l

-- keys from which a whole pool of steps fits 64 bits, and a step that goes on
abbrev pub key_most : ℕ
key_most = 10376293541461622784

-- ---- the range of a box: its corner cells and how many cells there are
abbrev pub span_of : ℕ → Aabb → Span
span_of size b = record { low = low_cell size b; high = high_cell size b; cells = covers size b }

abbrev pub span_by : Cell → Cell → Span
span_by a b = record { low = a; high = b; cells = cells_in a b }

-- cells that may be the corners of a box: near, and not reversed
pub record Upright (a b : Cell) : Type 0 where
  pub low : Near a
  pub high : Near b
  pub x : upward a.x ≤ upward b.x
  pub y : upward a.y ≤ upward b.y

-- the way of slot s
abbrev pub way_of : ℕ → Span → Way
way_of s p = record { first = key_of p.low; last = key_of p.high; jump = 4294967296 + column_of (key_of p.low) - column_of (key_of p.high); item = item_of s (eqb p.cells 1) }

-- the way of a slot that is not occupied: no key comes
abbrev pub no_way : ℕ → Way
no_way s = record { first = 1; last = 0; jump = 1; item = item_of s false }

abbrev pub way_at : List (List ℕ) → List (List Float) → ℕ → ℕ → Way
way_at nums reals size s = pick (eqb (phase_at nums s) live) (way_of s (span_of size (aabb_at reals s))) (no_way s)
