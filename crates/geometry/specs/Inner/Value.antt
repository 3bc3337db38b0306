-- A float's value as a signed whole number of the format's smallest value: p - n, where p or n is 0. An infinity counts as the least number that is too large.
-- `Num f x p n` says that x is no NaN and has that value. The order is that of the values. Assumes nothing.
-- Here: what only inner contracts cite.
use Rattle.std.specs.Prelude.{◌*◌, ◌^◌, ◌<◌, ◌≡◌, Float}
use Rattle.basics.specs.Words.{ℕ, true, false}
use Rattle.std.specs.Float.{nan, inf, fin, Format}
use Rattle.std.specs.Float.Ieee.{low, up, down}
use Rattle.std.specs.Float.Ieee.Scale.{overflow}

abbrev pub Num : Format → Float → ℕ → ℕ → Type 0
Num f nan p n = ⊥
Num f (inf false) p n = (p ≡ overflow f) × (n ≡ 0)
Num f (inf true) p n = (n ≡ overflow f) × (p ≡ 0)
Num f (fin false m e) p n = (m * up e * 2 ^ low f ≡ p * down e) × (n ≡ 0) × (p < overflow f)
Num f (fin true m e) p n = (m * up e * 2 ^ low f ≡ n * down e) × (p ≡ 0) × (n < overflow f)
