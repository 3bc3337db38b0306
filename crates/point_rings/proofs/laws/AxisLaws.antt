-- One axis by its numbers: the gaps from a coordinate to the edges d cells away on either side,
-- and that a coordinate d cells away or farther is not nearer than the gap on its side. Assumes nothing.
use Rattle.basics.specs.Words.{ℕ, suc, ◌+◌, ◌-◌, ◌*◌, ◌≤◌, min, ◌≡◌, refl, sym, ap, ◌∙◌, false, inl, inr, T, lit<, ℤ, pos, ◌+ℤ◌, ◌-ℤ◌, le_of_eq, le_trans}
use Rattle.basics.specs.Words.{mul_assoc, mul-le-mul, mul-le-mul_right, arith}
use lib.Signed.{mag}
use lib.Ieee.{Float, fin, binary32, sub, fits}
use Rattle.basics.proofs.laws.Says.{d_le}
use Rattle.geometry.specs.Meaning.Domain.{in_domain}
use Rattle.geometry.specs.Inner.Value.{Num}
use Rattle.geometry.proofs.laws.DomainLaws.{domain_fits, domain_finite}
use Rattle.geometry.proofs.laws.Value.{cast}
use Rattle.geometry.proofs.laws.Rounding.{R, R_mono, R_zero, number, fixed}
use Rattle.geometry.proofs.laws.Sums.{sub_num}
use Rattle.geometry.proofs.laws.WithinLaws.{at, power}
use Rattle.cells.specs.Meaning.Size.{SizeInDomain}
use Rattle.cells.specs.Meaning.CellRule.{cell_of}
use Rattle.cells.specs.Meaning.Key.{upward}
use Rattle.cells.specs.Inner.Edge.{edge}
use Rattle.cells.specs.Inner.EdgeRule.{unit}
use Rattle.cells.proofs.laws.ReachLaws.{domain_reached}
use Rattle.cells.proofs.laws.CellRuleLaws.{cell-small}
use Rattle.cells.proofs.laws.EdgeRule.{reaches}
use Rattle.point_rings.specs.Inner.Rings.{most_rings, apart}
use Rattle.point_rings.proofs.laws.CellNumbers.{up-cell, down_cell, Between, stands, Edge, edge_num}

-- ---- the gaps in units, before they are rounded: a is the cell, w the width of a cell, p - n the coordinate
abbrev up_gap : ℕ → ℕ → ℕ → ℕ → ℕ → ℕ
up_gap a d w p n = (a + d) * w + n - (p + 2147483648 * w)

abbrev down_gap : ℕ → ℕ → ℕ → ℕ → ℕ → ℕ
down_gap a d w p n = p + (2147483648 + d) * w - (suc a * w + n)

module _ (a d w p n : ℕ) (here : Between a w p n) where
  up-most : up_gap a d w p n ≤ d * w
  up-most = omega arith

  -- the edge e, whose number is i - j
  module _ (e i j : ℕ) (at_Edge : i + 2147483648 * w ≡ e * w + j) (some : 1 ≤ d) where
    up_parts : e ≡ a + d → (i + n - (j + p) ≡ up_gap a d w p n) × (j + p - (i + n) ≡ 0)
    up_parts h = omega (arith, ap (λ (z : ℕ). z * w) h, mul-le-mul_right w some)

    down_parts : e + d ≡ a + 1 → (p + j - (n + i) ≡ down_gap a d w p n) × (n + i - (p + j) ≡ 0)
    down_parts h = omega (arith, ap (λ (z : ℕ). z * w) h, mul-le-mul_right w some)

  -- another coordinate, q - k in cell b
  module _ (b q k : ℕ) (there : Between b w q k) where
    up_far : a + d ≤ b → up_gap a d w p n ≤ q + n - (k + p)
    up_far h = omega (arith, mul-le-mul_right w h)

    down_far : b + d ≤ a → down_gap a d w p n ≤ k + p - (q + n)
    down_far h = omega (arith, mul-le-mul_right w h)

-- ---- 2 ^ 23 is more than any gap, and is left as it is by rounding
abbrev pub top : ℕ
top = at binary32 23

top_fits : T (fits binary32 (fin false 1 (pos 23)))
unfolding fits
top_fits = tt

top_num : Num binary32 (fin false 1 (pos 23)) top 0
top_num = power binary32 23 (lit< tt)

top_stays : (k : ℕ) → k ≤ top → R binary32 k ≤ top
top_stays k h = le_trans (R_mono binary32 k top h) (le_of_eq (fixed binary32 (fin false 1 (pos 23)) top 0 top_fits tt top_num).0)

wide : (s d : ℕ) → SizeInDomain s → d ≤ most_rings → d * (s * unit) ≤ top
wide s d S h = le_trans (le_of_eq (sym (mul_assoc d s unit))) (mul-le-mul_right unit (mul-le-mul h S.1))

-- the edges that a gap looks at are exact
near_enough : (m k s : ℕ) → k ≤ m + 11 → m * s ≤ 1048576 → s ≤ 1048576 → suc k * s ≤ 16777216
near_enough m k s h g i = omega (arith, mul-le-mul_right s h)

module _ (a b q k : ℕ) where
  first-least : a ≤ q → min a b ≤ q + k
  first-least h = omega arith

  second-least : b ≤ k → min a b ≤ q + k
  second-least h = omega arith

-- ---- the gaps of a coordinate x
module _ (s : ℕ) (S : SizeInDomain s) (x : Float) (D : T (in_domain x)) (d : ℕ) (some : 1 ≤ d) (most : d ≤ most_rings) where
  abbrev cell : ℤ
  cell = cell_of (pos s) x

  nx : (p : ℕ) × (n : ℕ) × Num binary32 x p n
  nx = number binary32 x (domain_fits x D) (domain_finite x D)

  tight : mag cell ≤ 2097152
  tight = cell-small s x (domain_reached x D)

  abbrev w : ℕ
  w = s * unit

  at_x : Between (upward cell) w nx.0 nx.1
  at_x = stands s S x D nx.0 nx.1 nx.2

  edge_of : (z : ℤ) → mag z ≤ mag cell + 11 → Edge s z
  edge_of z h = edge_num s z (near_enough (mag cell) (mag z) s h (reaches s S x D cell refl) S.1) (omega (arith, tight))

  -- the gap to the edge above, and to that below, in units
  pub above : ℕ
  above = R binary32 (up_gap (upward cell) d w nx.0 nx.1)

  pub under : ℕ
  under = R binary32 (down_gap (upward cell) d w nx.0 nx.1)

  pub above_top : above ≤ top
  unfolding above
  above_top = top_stays _ (le_trans (up-most (upward cell) d w nx.0 nx.1 at_x) (wide s d S most))

  pub above_num : Num binary32 (sub binary32 (edge s (cell +ℤ pos d)) x) above 0
  unfolding above
  above_num =
      let c = up-cell cell tight d most in
      let (i, j, v, g, e) = edge_of (cell +ℤ pos d) c.1 in
      let r = up_parts (upward cell) d w nx.0 nx.1 at_x (upward (cell +ℤ pos d)) i j e some c.0 in
      cast binary32 (sub binary32 (edge s (cell +ℤ pos d)) x) _ _ above 0 (sub_num binary32 (edge s (cell +ℤ pos d)) x i j nx.0 nx.1 g (domain_finite x D) v nx.2)
      (ap (R binary32) r.0) (ap (R binary32) r.1 ∙ R_zero binary32)

  pub under_num : Num binary32 (sub binary32 x (edge s (cell -ℤ pos d +ℤ pos 1))) under 0
  unfolding under
  under_num =
      let z = cell -ℤ pos d +ℤ pos 1 in
      let c = down_cell cell tight d most in
      let (i, j, v, g, e) = edge_of z c.1 in
      let r = down_parts (upward cell) d w nx.0 nx.1 at_x (upward z) i j e some c.0 in
      cast binary32 (sub binary32 x (edge s z)) _ _ under 0 (sub_num binary32 x (edge s z) nx.0 nx.1 i j (domain_finite x D) g nx.2 v)
      (ap (R binary32) r.0) (ap (R binary32) r.1 ∙ R_zero binary32)

  -- a coordinate that is d cells away or farther differs at least by the lesser gap
  pub axis_far : (y : Float) → T (in_domain y) → d ≤ apart (upward cell) (upward (cell_of (pos s) y))
      → (q : ℕ) × (k : ℕ) × Num binary32 (sub binary32 y x) q k × (min above under ≤ q + k)
  unfolding above under
  axis_far y Dy h =
      let (q, k, v) = number binary32 y (domain_fits y Dy) (domain_finite y Dy) in
      let (p, n, u) = nx in
      let b = stands s S y Dy q k v in (
        R binary32 (q + n - (k + p)),
        R binary32 (k + p - (q + n)),
        sub_num binary32 y x q k p n (domain_finite y Dy) (domain_finite x D) v u,
        elim (d_le (upward cell + d) (upward (cell_of (pos s) y))) [
          | inl g ↦ first-least above under _ _ (R_mono binary32 _ _ (up_far (upward cell) d w p n at_x (upward (cell_of (pos s) y)) q k b g))
          | inr g ↦ second-least above under _ _ (R_mono binary32 _ _ (down_far (upward cell) d w p n at_x (upward (cell_of (pos s) y)) q k b (other (upward cell) (upward (cell_of (pos s) y)) h g)))
        ],
      )
    where
      other : (a b : ℕ) → d ≤ apart a b → (a + d ≤ b → ⊥) → b + d ≤ a
      other a b h g = omega arith
