-- The coordinates of a cell as all binary32 numbers from one to another. Assumes nothing.
use Rattle.std.specs.Prelude.{◌*◌, ◌≤◌, ◌<◌, ◌≡◌, ◌&&◌, Float}
use Rattle.basics.specs.Words.{ℕ, Bool, T, ℤ, pos}
use Rattle.std.specs.Float.{binary32}
use Rattle.std.specs.Float.Ieee.{le, fits}
use Rattle.basics.specs.Meaning.Says.{Says}
use Rattle.geometry.specs.Meaning.Domain.{in_domain}
use Rattle.geometry.specs.Inner.Value.{Num}
use Rattle.cells.specs.Meaning.CellRule.{cell_of}
use Rattle.cells.specs.Inner.EdgeRule.{unit}
use Rattle.cells.specs.Inner.Patterns.{Held}

-- a binary32 number from lo to hi
abbrev pub in_span : Float → Float → Float → Bool
in_span lo hi x = fits binary32 x && (le lo x && le x hi)

-- the numbers from lo to hi are exactly those of the domain and of cell c
abbrev pub Spans : ℕ → ℤ → Float → Float → Type 0
Spans s c lo hi = (x : Float) → Says (in_span lo hi x) (T (in_domain x) × (cell_of (pos s) x ≡ c))

-- r is the greatest of the domain below a whole number n
pub record LastBelow (n : ℕ) (r : Float) : Type 0 where
  pub number : ℕ
  pub is : Num binary32 r number 0
  pub most : (w : ℕ) → Held w → w < n * unit → w ≤ 1048576 * unit → w ≤ number
  pub below : (w : ℕ) → w ≤ number → w < n * unit
  pub reach : (w : ℕ) → w ≤ number → w ≤ 1048576 * unit

-- r is the least above zero that is not below a whole number n
pub record FirstFrom (n : ℕ) (r : Float) : Type 0 where
  pub number : ℕ
  pub is : Num binary32 r number 0
  pub some : 0 < number
  pub least : (w : ℕ) → 0 < w → n * unit ≤ w → number ≤ w
  pub from : (w : ℕ) → number ≤ w → n * unit ≤ w
