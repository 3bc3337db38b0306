-- Cells whose numbers fit 32 bits have keys below 2 ^ 64, and each comes back from its key. Assumes nothing.
use Rattle.basics.specs.Words.{ℕ, ◌<◌, ◌≡◌, ap, ◌∙◌, inl, inr, ℤ, pos, negsuc, arith, lt-ltb, le-ltb}
use lib.Signed.{mag}
use Rattle.basics.proofs.laws.Says.{d_lt}
use Rattle.cells.specs.declared.Cell.{Cell}
use Rattle.cells.proofs.laws.Numbers.{cell_ext, Fits}
use Rattle.cells.specs.Meaning.Key.{upward, key_of}
use Rattle.cells.specs.Inner.Key.{downward, column_of, line_of, cell_of_key}

-- ---- one number
pub upward_lt : (z : ℤ) → mag z < 2147483648 → upward z < 4294967296
upward_lt (pos n) h = omega arith
upward_lt (negsuc n) h = omega arith

pub upward_injective : (a b : ℤ) → mag a < 2147483648 → mag b < 2147483648 → upward a ≡ upward b → a ≡ b
upward_injective (pos a) (pos b) ha hb e = ap pos (omega arith)
upward_injective (pos a) (negsuc b) ha hb e = absurd (omega arith)
upward_injective (negsuc a) (pos b) ha hb e = absurd (omega arith)
upward_injective (negsuc a) (negsuc b) ha hb e = ap negsuc (omega arith)

-- ---- keys
pub key_lt : (c : Cell) → Fits c → key_of c < 18446744073709551616
unfolding key_of
key_lt c f = omega (arith, upward_lt c.x f.x, upward_lt c.y f.y)

-- ---- back from a key
pub upward-downward : (n : ℕ) → upward (downward n) ≡ n
upward-downward n =
    elim (d_lt n 2147483648) [ inl h ↦ rw (lt-ltb n 2147483648 h) (omega arith) | inr h ↦ rw (le-ltb n 2147483648 (omega arith)) (omega arith) ]

pub downward-small : (n : ℕ) → n < 4294967296 → mag (downward n) < 2147483648
downward-small n h =
    elim (d_lt n 2147483648) [ inl g ↦ rw (lt-ltb n 2147483648 g) (omega arith) | inr g ↦ rw (le-ltb n 2147483648 (omega arith)) (omega arith) ]

pub downward-upward : (z : ℤ) → mag z < 2147483648 → downward (upward z) ≡ z
downward-upward z h =
    upward_injective (downward (upward z)) z (downward-small (upward z) (upward_lt z h)) h (upward-downward (upward z))

pub key_column : (c : Cell) → Fits c → column_of (key_of c) ≡ upward c.x
unfolding key_of
key_column c f = omega (arith, upward_lt c.x f.x)

pub key_row : (c : Cell) → Fits c → line_of (key_of c) ≡ upward c.y
unfolding key_of
key_row c f = omega (arith, upward_lt c.x f.x)

pub cell-key : (c : Cell) → Fits c → cell_of_key (key_of c) ≡ c
unfolding cell_of_key
cell-key c f =
    cell_ext
    (ap downward (key_column c f) ∙ downward-upward c.x f.x)
    (ap downward (key_row c f) ∙ downward-upward c.y f.y)

pub cell-key-fits : (k : ℕ) → k < 18446744073709551616 → Fits (cell_of_key k)
unfolding cell_of_key
cell-key-fits k h = record { x = downward-small (column_of k) (omega arith); y = downward-small (line_of k) (omega arith) }

pub key-cell : (k : ℕ) → key_of (cell_of_key k) ≡ k
unfolding key_of cell_of_key
key-cell k = omega (arith, upward-downward (column_of k), upward-downward (line_of k))
