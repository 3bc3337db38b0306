-- Cells and their edges by numbers: the cells d away from one, where a coordinate stands between the edges of its cell, and the number of an edge.
-- Assumes nothing.
use Rattle.basics.specs.Words.{ℕ, zero, suc, ◌+◌, ◌-◌, ◌*◌, ◌≤◌, ◌<◌, ◌≡◌, refl, sym, ap, true, false, ◌⊎◌, inl, inr, ⊎_elim, T, lit<, ℤ, pos, negsuc, neg_ℤ}
use Rattle.basics.specs.Words.{◌+ℤ◌, ◌-ℤ◌, le_of_eq, lt_irrefl, lt_of_lt_of_le, lt_of_le_of_lt, mul-le-mul_right, arith, lt-ltb, le-ltb}
use lib.Signed.{mag}
use lib.Ieee.{Float, nan, inf, fin, binary32}
use lib.Ieee.Scale.{finite, overflow}
use Rattle.basics.proofs.laws.Says.{d_lt}
use Rattle.geometry.specs.Meaning.Domain.{in_domain}
use Rattle.geometry.specs.Inner.Value.{Num}
use Rattle.geometry.proofs.laws.Value.{either}
use Rattle.cells.specs.Meaning.Size.{SizeInDomain}
use Rattle.cells.specs.Meaning.CellRule.{cell_of}
use Rattle.cells.specs.Meaning.Key.{upward}
use Rattle.cells.specs.Inner.Edge.{edge}
use Rattle.cells.specs.Inner.EdgeRule.{unit}
use Rattle.cells.proofs.laws.ReachLaws.{domain_reached}
use Rattle.cells.proofs.laws.CellRuleLaws.{cell-small}
use Rattle.cells.proofs.laws.EdgeLaws.{over_in, under_in}
use Rattle.cells.proofs.laws.EdgeRule.{whole_num, minus_num, room}

-- ---- whole numbers counted from the least: a sum of two
abbrev Added : ℤ → ℤ → Type 0
Added z w = (upward (z +ℤ w) + 2147483648 ≡ upward z + upward w) × (mag (z +ℤ w) ≤ mag z + mag w + 1)

across : (a b : ℕ) → a + b < 2147483647 → Added (pos a) (negsuc b)
across a b h = elim (d_lt a (suc b)) [ inl g ↦ rw (lt-ltb a (suc b) g) (omega arith) | inr g ↦ rw (le-ltb a (suc b) (omega arith)) (omega arith) ]

added : (z w : ℤ) → mag z + mag w < 2147483647 → Added z w
added (pos a) (pos b) h = omega arith
added (pos a) (negsuc b) h = across a b h
added (negsuc a) (pos b) h = let g = across b a (omega arith) in omega arith
added (negsuc a) (negsuc b) h = omega arith

minus : (d : ℕ) → d ≤ 8 → (upward (neg_ℤ (pos d)) + d ≡ 2147483648) × (mag (neg_ℤ (pos d)) ≤ 8)
minus zero h = omega arith
minus (suc d) h = omega arith

-- the cells d away from cell a on either side
module _ (a : ℤ) (small : mag a ≤ 2097152) (d : ℕ) (most : d ≤ 8) where
  pub up-cell : (upward (a +ℤ pos d) ≡ upward a + d) × (mag (a +ℤ pos d) ≤ mag a + 11)
  up-cell = let g = added a (pos d) (omega arith) in omega arith

  pub down_cell : (upward (a -ℤ pos d +ℤ pos 1) + d ≡ upward a + 1) × (mag (a -ℤ pos d +ℤ pos 1) ≤ mag a + 11)
  down_cell =
      let m = minus d most in
      let g = added a (neg_ℤ (pos d)) (omega arith) in
      let i = added (a -ℤ pos d) (pos 1) (omega arith) in
      omega arith

-- ---- what is below the overflow is finite
pub small_finite : (x : Float) (p n : ℕ) → Num binary32 x p n → p < overflow binary32 → n < overflow binary32 → T (finite x)
small_finite nan p n v h g = absurd v
small_finite (inf false) p n v h g = absurd (lt_irrefl p (lt_of_lt_of_le h (le_of_eq (sym v.0))))
small_finite (inf true) p n v h g = absurd (lt_irrefl n (lt_of_lt_of_le g (le_of_eq (sym v.0))))
small_finite (fin s m e) p n v h g = tt

-- ---- a coordinate of p - n units stands between the edges of cell a, counted from the least; a cell is w units wide
abbrev pub Between : ℕ → ℕ → ℕ → ℕ → Type 0
Between a w p n = (a * w + n ≤ p + 2147483648 * w) × (p + 2147483648 * w ≤ suc a * w + n)

-- numbers: omega works on variables here, since a unit is a number of 45 digits
module _ (k s u p n : ℕ) where
  over_stands : n ≡ 0 → k * s * u ≤ p → p < suc k * s * u → Between (k + 2147483648) (s * u) p n
  over_stands z h g = omega arith

  under-stands : (j : ℕ) → j + k ≡ 2147483647 → p ≡ 0 → k * s * u ≤ n → n < suc k * s * u → Between j (s * u) p n
  under-stands j e z h g = omega (arith, ap (λ (i : ℕ). i * (s * u)) e)

over_edge : (k s u : ℕ) → k * s * u + 2147483648 * (s * u) ≡ (k + 2147483648) * (s * u) + 0
over_edge k s u = omega arith

under-edge : (k s u j : ℕ) → j + k ≡ 2147483647 → 0 + 2147483648 * (s * u) ≡ j * (s * u) + suc k * s * u
under-edge k s u j e = omega (arith, ap (λ (i : ℕ). i * (s * u)) e)

none : (p n : ℕ) → 0 < n → (p ≡ 0) ⊎ (n ≡ 0) → p ≡ 0
none p n h o = ⊎_elim (λ e. e) (λ e. omega arith) o

module _ (s : ℕ) (S : SizeInDomain s) (x : Float) (D : T (in_domain x)) (p n : ℕ) (v : Num binary32 x p n) where
  pub stands : Between (upward (cell_of (pos s) x)) (s * unit) p n
  stands = go (cell_of (pos s) x) refl (cell-small s x (domain_reached x D))
    where
      go : (c : ℤ) → cell_of (pos s) x ≡ c → mag c ≤ 2097152 → Between (upward c) (s * unit) p n
      go (pos k) e h = let (z, a, b) = over_in binary32 s S.0 x p n v room (domain_reached x D) k e in over_stands k s unit p n z a b
      go (negsuc k) e h =
          let (z, a, b) = under_in binary32 s S.0 x p n v room (domain_reached x D) k e in
          under-stands k s unit p n (2147483647 - k) (omega arith) (none p n z (either binary32 x p n v)) a b

-- ---- an edge by its number: it is exact up to 2 ^ 24
abbrev pub Edge : ℕ → ℤ → Type 0
Edge s z = (p : ℕ) × (n : ℕ) × Num binary32 (edge s z) p n × T (finite (edge s z)) × (p + 2147483648 * (s * unit) ≡ upward z * (s * unit) + n)

below : (n : ℕ) → n ≤ 16777216 → n * unit < overflow binary32
below n h = lt_of_le_of_lt (mul-le-mul_right unit h) (lit< tt)

zero-below : 0 < overflow binary32
zero-below = lit< tt

pub edge_num : (s : ℕ) (z : ℤ) → suc (mag z) * s ≤ 16777216 → mag z ≤ 2147483647 → Edge s z
edge_num s (pos k) h m =
    let g : k * s ≤ 16777216 = omega arith in
    let v = whole_num (k * s) g in
    (k * s * unit, 0, v, small_finite (edge s (pos k)) (k * s * unit) 0 v (below (k * s) g) zero-below, over_edge k s unit)
edge_num s (negsuc k) h m =
    let v = minus_num (suc k * s) h in
    (0, suc k * s * unit, v, small_finite (edge s (negsuc k)) 0 (suc k * s * unit) v zero-below (below (suc k * s) h), under-edge k s unit (2147483647 - k) (omega arith))
