-- Spans: between the first and the last number of a cell lies the cell. Assumes nothing.
use Rattle.basics.specs.Words.{ℕ, suc, ◌+◌, ◌*◌, ◌≤◌, ◌<◌, ◌-◌, zero-le, ◌≡◌, refl, sym, ap, ◌∙◌, true, false, not, ◌&&◌, ◌⊎◌, ⊎_elim, T, lit<, ℤ, pos, negsuc}
use Rattle.basics.specs.Words.{lt_irrefl, le_trans, le_of_lt, le_of_eq, lt_of_le_of_lt, lt_of_lt_of_le, zero-mul, mul-le-mul_right, mul-lt-mul_of_pos_right}
use Rattle.basics.specs.Words.{mul-pos, arith}
use lib.Pow.{pow_pos}
use lib.Signed.{mag}
use lib.Ieee.{Float, nan, inf, fin, binary32, low, of_int, of_bits, to_bits, neg, lt, eq, le, fits, is_nan}
use lib.Ieee.Fits.{and_i, and_l, and_r, of_int-fits}
use lib.Ieee.Scale.{finite, overflow}
use Rattle.basics.proofs.laws.Says.{says_via}
use Rattle.geometry.specs.Meaning.Domain.{within, in_domain}
use Rattle.geometry.proofs.laws.DomainLaws.{domain_fits, domain_within, domain_finite}
use Rattle.geometry.specs.Inner.Value.{Num}
use Rattle.geometry.proofs.laws.Value.{le_num, either}
use Rattle.geometry.proofs.laws.Rounding.{number}
use Rattle.geometry.proofs.laws.Sums.{neg_num}
use Rattle.geometry.proofs.laws.Back.{num_le}
use Rattle.geometry.proofs.laws.WithinLaws.{at, bounds, bounded, power}
use Rattle.cells.specs.Meaning.CellRule.{cell_of}
use Rattle.cells.specs.Meaning.Size.{SizeInDomain}
use Rattle.cells.proofs.laws.ReachLaws.{domain_reached}
use Rattle.cells.proofs.laws.EdgeLaws.{says_both, in_over, in_under, over_in, under_in}
use Rattle.cells.specs.Inner.EdgeRule.{unit}
use Rattle.cells.proofs.laws.EdgeRule.{whole_num, near_num, nought_num, room, none-past}
use Rattle.cells.specs.Inner.Patterns.{number_at}
use Rattle.cells.proofs.laws.Patterns.{both-held, under, own_pattern, under_num, under-least, under_less, pattern_num}
use Rattle.cells.specs.Inner.Span.{Spans, LastBelow, FirstFrom}

U : 0 < unit
U = pow_pos (low binary32)

-- ---- what lies between two finite numbers is finite
no_nan : (x : Float) → T (le x nan) → ⊥
unfolding le lt eq
no_nan nan h = h
no_nan (inf s) h = h
no_nan (fin s m e) h = h

between_finite : (lo hi x : Float) (i j q k : ℕ) → Num binary32 lo i j → Num binary32 hi q k → j < overflow binary32 → q < overflow binary32 → T (le lo x) → T (le x hi) → T (finite x)
between_finite lo hi nan i j q k u v a b g h = no_nan lo g
between_finite lo hi (inf true) i j q k u v a b g h = absurd (go (overflow binary32) a (le_num binary32 lo (inf true) i j 0 (overflow binary32) u (refl, refl) g))
  where
    go : (o : ℕ) → j < o → i + o ≤ 0 + j → ⊥
    go o a g = omega arith
between_finite lo hi (inf false) i j q k u v a b g h = absurd (go (overflow binary32) b (le_num binary32 (inf false) hi (overflow binary32) 0 q k (refl, refl) v h))
  where
    go : (o : ℕ) → q < o → o + k ≤ q + 0 → ⊥
    go o b h = omega arith
between_finite lo hi (fin s m e) i j q k u v a b g h = tt

-- ---- a span by the numbers of its ends
module _ (s : ℕ) (c : ℤ) (lo hi : Float) (i j q k : ℕ) (u : Num binary32 lo i j) (v : Num binary32 hi q k) (a : j < overflow binary32) (b : q < overflow binary32) where
  abbrev Yes : Type 0
  Yes = (x : Float) (p n : ℕ) → T (fits binary32 x) → T (finite x) → Num binary32 x p n → i + n ≤ p + j → p + k ≤ q + n → T (in_domain x) × (cell_of (pos s) x ≡ c)

  abbrev No : Type 0
  No = (x : Float) (p n : ℕ) → T (in_domain x) → Num binary32 x p n → cell_of (pos s) x ≡ c → (i + n ≤ p + j) × (p + k ≤ q + n)

  spans_by : Yes → No → Spans s c lo hi
  spans_by f g x = says_via yes no (says_both (fits binary32 x) (le lo x && le x hi))
    where
      yes : T (fits binary32 x) × T (le lo x && le x hi) → T (in_domain x) × (cell_of (pos s) x ≡ c)
      yes t =
          let y = and_l (le lo x) (le x hi) t.1 in
          let z = and_r (le lo x) (le x hi) t.1 in
          let w = between_finite lo hi x i j q k u v a b y z in
          let m = number binary32 x t.0 w in
          f x m.0 m.1 t.0 w m.2 (le_num binary32 lo x i j m.0 m.1 u m.2 y) (le_num binary32 x hi m.0 m.1 q k m.2 v z)

      no : T (in_domain x) × (cell_of (pos s) x ≡ c) → T (fits binary32 x) × T (le lo x && le x hi)
      no t =
          let m = number binary32 x (domain_fits x t.0) (domain_finite x t.0) in
          let w = g x m.0 m.1 t.0 m.2 t.1 in
          (domain_fits x t.0, and_i (le lo x) (le x hi) (num_le binary32 lo x i j m.0 m.1 u m.2 w.0) (num_le binary32 x hi m.0 m.1 q k m.2 v w.1))

reach-room : at binary32 20 < overflow binary32
reach-room = lit< tt

-- ---- numbers: omega works on variables here
module _ (i p n h : ℕ) where
  over_part : (p ≡ 0) ⊎ (n ≡ 0) → i + n ≤ p + 0 → p + 0 ≤ h + n → (n ≡ 0) × (i ≤ p) × (p ≤ h)
  over_part o a b = ⊎_elim (λ z. omega arith) (λ z. omega arith) o

  over_back : n ≡ 0 → i ≤ p → p ≤ h → (i + n ≤ p + 0) × (p + 0 ≤ h + n)
  over_back z a b = omega arith

  under_part : (p ≡ 0) ⊎ (n ≡ 0) → 0 < i → 0 + n ≤ p + h → p + i ≤ 0 + n → (p ≡ 0) × (0 < n) × (i ≤ n) × (n ≤ h)
  under_part o I a b = ⊎_elim (λ z. omega arith) (λ z. omega arith) o

  under_back : (p ≡ 0) ⊎ (n ≡ 0) → 0 < n → i ≤ n → n ≤ h → (0 + n ≤ p + h) × (p + i ≤ 0 + n)
  under_back o I a b = ⊎_elim (λ z. omega arith) (λ z. omega arith) o

none_of : (n w : ℕ) → n ≡ 0 → n ≤ w
none_of n w e = omega arith

module _ (s : ℕ) (S : SizeInDomain s) (k : ℕ) (h : k * s ≤ 1048576) (first last : Float) (t : LastBelow (suc k * s) last) where
  B : 0 < s
  B = omega (arith, S.0)

  last-room : t.number < overflow binary32
  last-room = lt_of_le_of_lt (t.reach t.number (le_of_eq refl)) reach-room

  within_domain : (x : Float) (p n : ℕ) → T (fits binary32 x) → Num binary32 x p n → p ≤ 1048576 * unit → n ≤ 1048576 * unit → T (in_domain x)
  within_domain x p n f v a b = and_i (fits binary32 x) (within 20 x) f (bounded binary32 20 x p n reach-room v a b)

  pub over_span : first ≡ of_int binary32 (pos (k * s)) → Spans s (pos k) first last
  over_span e = spans_by s (pos k) first last (k * s * unit) 0 t.number 0 (rw e (near_num s k S h)) t.is (lit< tt) last-room
      (λ x p n f w v a b.
      let (z, i, j) = over_part (k * s * unit) p n t.number (either binary32 x p n v) a b in
      let d = within_domain x p n f v (t.reach p j) (none_of n _ z) in
      (d, in_over binary32 s B x p n v room (domain_reached x d) k z i (t.below p j)))
      (λ x p n d v c.
      let (z, i, j) = over_in binary32 s B x p n v room (domain_reached x d) k c in
      let r = both-held x p n (domain_fits x d) (domain_finite x d) v in
      over_back (k * s * unit) p n t.number z i (t.most p r.0 j (bounds binary32 20 x p n reach-room v (domain_within x d)).0))

  pub under_span : FirstFrom (k * s) first → Spans s (negsuc k) (neg last) (neg first)
  under_span g = spans_by s (negsuc k) (neg last) (neg first) 0 t.number 0 g.number (neg_num binary32 last t.number 0 t.is) (neg_num binary32 first g.number 0 g.is) last-room (lit< tt)
      (λ x p n f w v a b.
      let (z, o, i, j) = under_part g.number p n t.number (either binary32 x p n v) g.some a b in
      let d = within_domain x p n f v (none_of p _ z) (t.reach n j) in
      (d, in_under binary32 s B x p n v room (domain_reached x d) k o (g.from n i) (t.below n j)))
      (λ x p n d v c.
      let (o, i, j) = under_in binary32 s B x p n v room (domain_reached x d) k c in
      let r = both-held x p n (domain_fits x d) (domain_finite x d) v in
      under_back g.number p n t.number (either binary32 x p n v) o (g.least n o i) (t.most n r.1 j (bounds binary32 20 x p n reach-room v (domain_within x d)).1))

-- from 1 to 0: of a cell whose edge next to zero lies outside the domain
pub no_span : (s : ℕ) → SizeInDomain s → (c : ℤ) → 1048576 < mag c * s → Spans s c (of_bits binary32 0x3f800000) (of_bits binary32 0)
unfolding of_bits
no_span s S c h = spans_by s c (fin false 1 (pos 0)) (fin false 0 (pos 0)) (at binary32 0) 0 0 0 (power binary32 0 (lit< tt)) nought_num (lit< tt) (lit< tt) (λ x p n f w v a b. absurd (go (at binary32 0) p n (lit< tt) a b)) (λ x p n d v e. absurd (none-past s S x d c h e))
  where
    go : (o p n : ℕ) → 0 < o → o + n ≤ p + 0 → p + 0 ≤ 0 + n → ⊥
    go o p n O a b = omega arith

-- ---- the last below n
pub last_far : (n : ℕ) → 1048576 < n → LastBelow n (of_bits binary32 0x49800000)
unfolding of_bits
last_far n h = record { number = at binary32 20; is = power binary32 20 reach-room; most = λ w z a b. b; below = λ w a. lt_of_le_of_lt a (mul-lt-mul_of_pos_right h U); reach = λ w a. a }

whole_finite : (x : Float) (p n : ℕ) → p < overflow binary32 → n < overflow binary32 → Num binary32 x p n → T (finite x)
whole_finite nan p n a b v = absurd v
whole_finite (inf true) p n a b v = absurd (lt_irrefl n (lt_of_lt_of_le b (le_of_eq (sym v.0))))
whole_finite (inf false) p n a b v = absurd (lt_irrefl p (lt_of_lt_of_le a (le_of_eq (sym v.0))))
whole_finite (fin s m e) p n a b v = tt

finite_number : (x : Float) → T (finite x) → T (not (is_nan x))
unfolding is_nan
finite_number nan t = t
finite_number (inf s) t = tt
finite_number (fin s m e) t = tt

module _ (n : ℕ) (h : 0 < n) (g : n ≤ 1048576) where
  abbrev x : Float
  x = of_int binary32 (pos n)

  exact : n ≤ 16777216
  exact = omega arith

  v : Num binary32 x (n * unit) 0
  v = whole_num n exact

  w : T (finite x)
  w = whole_finite x (n * unit) 0 (lt_of_le_of_lt (mul-le-mul_right unit g) reach-room) (lit< tt) v

  P : 0 < n * unit
  P = mul-pos h U

  pub last-near : LastBelow n (of_bits binary32 (to_bits binary32 (of_int binary32 (pos n)) - 1))
  last-near =
      record {
        number = number_at (under x (n * unit) (of_int-fits binary32 (pos n)) v P w);
        is = under_num x (n * unit) (of_int-fits binary32 (pos n)) v P w;
        most = λ a z i j. under-least x (n * unit) (of_int-fits binary32 (pos n)) v P w a z i;
        below = under_less x (n * unit) (of_int-fits binary32 (pos n)) v P w;
        reach = λ a i. le_trans (le_of_lt (under_less x (n * unit) (of_int-fits binary32 (pos n)) v P w a i)) (mul-le-mul_right unit g);
      }

  pub whole-number : T (not (is_nan (of_int binary32 (pos n))))
  whole-number = finite_number x w

  -- its pattern is above 0 and below that of infinity
  pub whole_pattern : (0 < to_bits binary32 (of_int binary32 (pos n))) × (to_bits binary32 (of_int binary32 (pos n)) < 2139095040)
  whole_pattern = let o = own_pattern x (n * unit) (of_int-fits binary32 (pos n)) v P w in (o.0, o.1)

  -- ---- the first from n
  pub first-whole : FirstFrom n (of_int binary32 (pos n))
  first-whole = record { number = n * unit; is = v; some = P; least = λ a z i. i; from = λ a i. i }

pub first-zero : (n : ℕ) → n ≡ 0 → FirstFrom n (of_bits binary32 1)
unfolding number_at
first-zero n e = record { number = number_at 1; is = pattern_num 1 (lit< tt); some = lit< tt; least = λ w z i. z; from = λ w i. le_trans (le_of_eq (ap (λ (k : ℕ). k * unit) e ∙ zero-mul unit)) zero-le }
