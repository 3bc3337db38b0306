-- The cell rule by comparison with edges that are exactly binary32 numbers. Assumes nothing.
-- Here: the laws.
use Rattle.basics.specs.Words.{ℕ, zero, suc, ◌+◌, ◌*◌, ◌≤◌, ◌<◌, zero-le, ◌≡◌, refl, sym, ap, ◌∙◌, subst, Bool, true, false, cond, ◌⊎◌, inl, inr, ⊎_elim, T}
use Rattle.basics.specs.Words.{lit<, ℤ, pos, negsuc, neg_ℤ, suc_ℤ, le_trans, le_of_eq, lt_irrefl, lt_of_le_of_lt, lt_of_lt_of_le, zero-lt-suc, zero-mul, suc-mul}
use Rattle.basics.specs.Words.{mul-one, mul_right_comm, mul-le-mul_right, mul-lt-mul_of_pos_right, mul-pos, arith}
use lib.Pow.{pow_pos}
use lib.Signed.{mag}
use lib.Ieee.{Float, nan, inf, fin, binary32, low, up, down, round, of_int, lt, eq, le}
use lib.Ieee.Fits.{and_l, and_r}
use lib.Ieee.Exact.{HasValue}
use lib.Ieee.Back.{round_whole}
use lib.Ieee.Scale.{overflow}
use Rattle.basics.specs.Meaning.Says.{Says}
use Rattle.basics.proofs.laws.Says.{says_via, d_le}
use Rattle.geometry.specs.Meaning.Domain.{in_domain}
use Rattle.geometry.proofs.laws.DomainLaws.{domain_fits, domain_within, domain_finite}
use Rattle.geometry.specs.Inner.Value.{Num}
use Rattle.geometry.proofs.laws.Value.{cast, lt_num, le_num, either}
use Rattle.geometry.proofs.laws.Rounding.{from_value, number}
use Rattle.geometry.proofs.laws.Back.{or_l, num_le, num_lt}
use Rattle.geometry.proofs.laws.WithinLaws.{at, bounds}
use Rattle.cells.specs.Meaning.CellRule.{cell_of}
use Rattle.cells.proofs.laws.ReachLaws.{domain_reached}
use Rattle.cells.specs.Meaning.Size.{SizeInDomain}
use Rattle.cells.specs.Inner.Edge.{edge, stands_in}
use Rattle.cells.proofs.laws.EdgeLaws.{over_says, in_under, under_in, over_in, says_both}
use Rattle.cells.specs.Inner.EdgeRule.{unit}

-- ---- a whole number of at most 2 ^ 24 is exactly a binary32
rescaled : (x : Float) (s : Bool) (n u : ℕ) → HasValue x s n 1 → HasValue x s (n * u) u
rescaled nan s n u v = v
rescaled (inf t) s n u v = v
rescaled (fin t m e) s n u v = (v.0, ap (λ (z : ℕ). z * u) (sym (mul-one (m * up e)) ∙ v.1) ∙ mul_right_comm n (down e) u)

below_all : (n : ℕ) → n ≤ 16777216 → n * unit < overflow binary32
below_all n h = lt_of_le_of_lt (mul-le-mul_right unit h) (lit< tt)

signed_whole : (s : Bool) (n : ℕ) → n ≤ 16777216 → Num binary32 (round binary32 s n 1) (cond s 0 (n * unit)) (cond s (n * unit) 0)
signed_whole s n h = from_value binary32 (round binary32 s n 1) s (n * unit) (rescaled (round binary32 s n 1) s n unit (round_whole binary32 s n h)) (below_all n h)

pub whole_num : (n : ℕ) → n ≤ 16777216 → Num binary32 (of_int binary32 (pos n)) (n * unit) 0
unfolding of_int
whole_num n h = signed_whole false n h

pub minus_num : (n : ℕ) → n ≤ 16777216 → Num binary32 (of_int binary32 (neg_ℤ (pos n))) 0 (n * unit)
unfolding of_int
minus_num zero h = cast binary32 (round binary32 false 0 1) (0 * unit) 0 0 (0 * unit) (signed_whole false 0 h) (zero-mul unit) (sym (zero-mul unit))
minus_num (suc n) h = signed_whole true (suc n) h

pub nought_num : Num binary32 (fin false 0 (pos 0)) 0 0
nought_num = (refl, refl, lit< tt)

pub room : at binary32 21 < overflow binary32
room = lit< tt

-- ---- where the edge of a cell next to zero is in the domain, both are exact
far_small : (s k : ℕ) → SizeInDomain s → k * s ≤ 1048576 → suc k * s ≤ 2097152
far_small s k S h = le_trans (le_of_eq (suc-mul k s)) (omega (arith, S.1))

exact : (n : ℕ) → n ≤ 2097152 → n ≤ 16777216
exact n h = omega arith

pub near_num : (s k : ℕ) → SizeInDomain s → k * s ≤ 1048576 → Num binary32 (of_int binary32 (pos (k * s))) (k * s * unit) 0
near_num s k S h = whole_num (k * s) (omega arith)

pub far_num : (s k : ℕ) → SizeInDomain s → k * s ≤ 1048576 → Num binary32 (of_int binary32 (pos (suc k * s))) (suc k * s * unit) 0
far_num s k S h = whole_num (suc k * s) (exact (suc k * s) (far_small s k S h))

-- ---- a number between two edges below zero: omega works on variables here, since a unit is a number of 45 digits
module _ (p n w : ℕ) where
  first_part : (p ≡ 0) ⊎ (n ≡ 0) → 0 + n < p + w → p + 0 < 0 + n → (0 < n) × (n < w)
  first_part o a b = ⊎_elim (λ z. omega arith) (λ z. omega arith) o

  first_back : (p ≡ 0) ⊎ (n ≡ 0) → 0 < n → n < w → (0 + n < p + w) × (p + 0 < 0 + n)
  first_back o a b = ⊎_elim (λ z. omega arith) (λ z. omega arith) o

module _ (p n u w : ℕ) where
  next_part : 0 < u → (p ≡ 0) ⊎ (n ≡ 0) → 0 + n < p + w → p + u ≤ 0 + n → (0 < n) × (u ≤ n) × (n < w)
  next_part U o a b = ⊎_elim (λ z. omega arith) (λ z. omega arith) o

  next-back : (p ≡ 0) ⊎ (n ≡ 0) → 0 < n → u ≤ n → n < w → (0 + n < p + w) × (p + u ≤ 0 + n)
  next-back o a b c = ⊎_elim (λ z. omega arith) (λ z. omega arith) o

past : (s k a : ℕ) → 1048576 < k * s → a ≤ at binary32 20 → k * s * unit ≤ a → ⊥
past s k a h g i = lt_irrefl (1048576 * unit) (lt_of_lt_of_le (mul-lt-mul_of_pos_right h (pow_pos (low binary32))) (le_trans i g))

weak : (x y : Float) → T (lt x y) → T (le x y)
unfolding le
weak x y t = or_l (lt x y) (eq x y) t

module _ (s : ℕ) (S : SizeInDomain s) (x : Float) (D : T (in_domain x)) where
  B : 0 < s
  B = omega (arith, S.0)

  abbrev p : ℕ
  p = (number binary32 x (domain_fits x D) (domain_finite x D)).0

  abbrev n : ℕ
  n = (number binary32 x (domain_fits x D) (domain_finite x D)).1

  abbrev v : Num binary32 x p n
  v = (number binary32 x (domain_fits x D) (domain_finite x D)).2

  one_side : (p ≡ 0) ⊎ (n ≡ 0)
  one_side = either binary32 x p n v

  under : (k : ℕ) → 0 < n → k * s * unit ≤ n → n < suc k * s * unit → cell_of (pos s) x ≡ negsuc k
  under k = in_under binary32 s B x p n v room (domain_reached x D) k

  pub stands_says : (c : ℤ) → mag c * s ≤ 1048576 → Says (stands_in s x c) (cell_of (pos s) x ≡ c)
  stands_says (pos k) h = over_says binary32 s B x p n v room (domain_reached x D) k (edge s (pos k)) (edge s (pos (suc k))) (near_num s k S h) (far_num s k S h)
  stands_says (negsuc zero) h = says_via yes no (says_both (lt (edge s (negsuc 0)) x) (lt x (fin false 0 (pos 0))))
    where
      w : ℕ
      w = 1 * s * unit

      lo : Num binary32 (edge s (negsuc 0)) 0 w
      lo = minus_num (1 * s) (exact (1 * s) (far_small s 0 S h))

      yes : T (lt (edge s (negsuc 0)) x) × T (lt x (fin false 0 (pos 0))) → cell_of (pos s) x ≡ negsuc 0
      yes t = let (a, b) = first_part p n w one_side (lt_num binary32 (edge s (negsuc 0)) x 0 w p n lo v t.0) (lt_num binary32 x (fin false 0 (pos 0)) p n 0 0 v nought_num t.1) in under 0 a (le_trans (le_of_eq (ap (λ (z : ℕ). z * unit) (zero-mul s) ∙ zero-mul unit)) zero-le) b

      no : cell_of (pos s) x ≡ negsuc 0 → T (lt (edge s (negsuc 0)) x) × T (lt x (fin false 0 (pos 0)))
      no e = let (a, c, b) = under_in binary32 s B x p n v room (domain_reached x D) 0 e in let (g, i) = first_back p n w one_side a b in (num_lt binary32 (edge s (negsuc 0)) x 0 w p n lo v g, num_lt binary32 x (fin false 0 (pos 0)) p n 0 0 v nought_num i)
  stands_says (negsuc (suc k)) h = says_via yes no (says_both (lt (edge s (negsuc (suc k))) x) (le x (edge s (negsuc k))))
    where
      u : ℕ
      u = suc k * s * unit

      w : ℕ
      w = suc (suc k) * s * unit

      U : 0 < u
      U = mul-pos (mul-pos (zero-lt-suc k) B) (pow_pos (low binary32))

      lo : Num binary32 (edge s (negsuc (suc k))) 0 w
      lo = minus_num (suc (suc k) * s) (exact (suc (suc k) * s) (far_small s (suc k) S h))

      hi : Num binary32 (edge s (negsuc k)) 0 u
      hi = minus_num (suc k * s) (exact (suc k * s) (omega arith))

      yes : T (lt (edge s (negsuc (suc k))) x) × T (le x (edge s (negsuc k))) → cell_of (pos s) x ≡ negsuc (suc k)
      yes t = let (a, b, c) = next_part p n u w U one_side (lt_num binary32 (edge s (negsuc (suc k))) x 0 w p n lo v t.0) (le_num binary32 x (edge s (negsuc k)) p n 0 u v hi t.1) in under (suc k) a b c

      no : cell_of (pos s) x ≡ negsuc (suc k) → T (lt (edge s (negsuc (suc k))) x) × T (le x (edge s (negsuc k)))
      no e = let (a, b, c) = under_in binary32 s B x p n v room (domain_reached x D) (suc k) e in let (g, i) = next-back p n u w one_side a b c in (num_lt binary32 (edge s (negsuc (suc k))) x 0 w p n lo v g, num_le binary32 x (edge s (negsuc k)) p n 0 u v hi i)

  -- a cell whose edge next to zero lies outside the domain has no coordinate of it
  pub none-past : (c : ℤ) → 1048576 < mag c * s → cell_of (pos s) x ≡ c → ⊥
  none-past (pos k) h e = past s k p h (bounds binary32 20 x p n (lit< tt) v (domain_within x D)).0 (over_in binary32 s B x p n v room (domain_reached x D) k e).1
  none-past (negsuc k) h e = past s k n h (bounds binary32 20 x p n (lit< tt) v (domain_within x D)).1 (under_in binary32 s B x p n v room (domain_reached x D) k e).1

  pub reaches : (c : ℤ) → cell_of (pos s) x ≡ c → mag c * s ≤ 1048576
  reaches c e = elim (d_le (mag c * s) 1048576) [ inl h ↦ h | inr h ↦ absurd (none-past c (omega (arith, h)) e) ]

  stood : (c : ℤ) → cell_of (pos s) x ≡ c → T (stands_in s x c)
  stood c e = subst T (sym ((stands_says c (reaches c e)).no e)) tt

  -- ---- a coordinate lies between the edges of its cell
  pub edge-left : (c : ℤ) → cell_of (pos s) x ≡ c → T (le (edge s c) x)
  edge-left (pos k) e = and_l (le (edge s (pos k)) x) (lt x (edge s (pos (suc k)))) (stood (pos k) e)
  edge-left (negsuc zero) e = weak (edge s (negsuc 0)) x (and_l (lt (edge s (negsuc 0)) x) (lt x (fin false 0 (pos 0))) (stood (negsuc 0) e))
  edge-left (negsuc (suc k)) e = weak (edge s (negsuc (suc k))) x (and_l (lt (edge s (negsuc (suc k))) x) (le x (edge s (negsuc k))) (stood (negsuc (suc k)) e))

  pub edge-right : (c : ℤ) → cell_of (pos s) x ≡ c → T (le x (edge s (suc_ℤ c)))
  edge-right (pos k) e = weak x (edge s (pos (suc k))) (and_r (le (edge s (pos k)) x) (lt x (edge s (pos (suc k)))) (stood (pos k) e))
  edge-right (negsuc zero) e =
      let h = lt_num binary32 x (fin false 0 (pos 0)) p n 0 0 v nought_num (and_r (lt (edge s (negsuc 0)) x) (lt x (fin false 0 (pos 0))) (stood (negsuc 0) e)) in
      num_le binary32 x (edge s (pos 0)) p n (0 * s * unit) 0 v (near_num s 0 S (omega arith)) (go p n (0 * s * unit) h)
    where
      go : (p n q : ℕ) → p + 0 < 0 + n → p + 0 ≤ q + n
      go p n q h = omega arith
  edge-right (negsuc (suc k)) e = and_r (lt (edge s (negsuc (suc k))) x) (le x (edge s (negsuc k))) (stood (negsuc (suc k)) e)
