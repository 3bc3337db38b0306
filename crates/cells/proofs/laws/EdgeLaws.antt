-- The cell rule by comparison with edges, the multiples of the cell size: a coordinate stands in cell k from edge k on and below edge k + 1, and below zero,
-- mirrored, in cell -1 - k. Said of the numbers that floats stand for, in units of the format's smallest value. Assumes nothing.
use Rattle.basics.specs.Words.{ℕ, suc, ◌*◌, ◌/◌, ◌^◌, ◌≤◌, ◌<◌, min, ◌≡◌, sym, ap, ◌∙◌, subst, Bool, true, false, not, ◌&&◌, inl, inr, ⊎_elim, T, ℤ, pos}
use Rattle.basics.specs.Words.{negsuc, eq-zero-or-pos, le_trans, le_of_eq, zero-div, mul_comm, div-le_of_le-mul, le-div_iff_mul-le, div-lt_iff_lt-mul, arith}
use lib.Pow.{pow_pos}
use lib.Signed.{mag, non_neg}
use lib.Ieee.{Float, nan, inf, fin, Format, low, up, down, neg, lt, le}
use lib.Ieee.Fits.{down_pos, and_i, and_l, and_r}
use lib.Ieee.Nearest.{div_same}
use lib.Ieee.Scale.{finite, overflow}
use Rattle.basics.specs.Meaning.Says.{Says}
use Rattle.basics.proofs.laws.Says.{says_t, says_via, says_and}
use Rattle.geometry.specs.Meaning.Domain.{within}
use Rattle.geometry.specs.Inner.Value.{Num}
use Rattle.geometry.proofs.laws.Value.{scaled_zero, lt_num, le_num, either}
use Rattle.geometry.proofs.laws.Sums.{neg_num}
use Rattle.geometry.proofs.laws.Back.{num_le, num_lt}
use Rattle.geometry.proofs.laws.WithinLaws.{within_finite, at, bounds}
use Rattle.cells.specs.Meaning.CellRule.{cell_of}
use Rattle.cells.proofs.laws.CellSignLaws.{cell_pos, cell_neg, cell-zero}

pub says_both : (a b : Bool) → Says (a && b) (T a × T b)
says_both a b = says_and a b (says_t a) (says_t b)

-- ---- a quotient by two numbers is k exactly from k times both on, and below the next
module _ (p u b k : ℕ) (U : 0 < u) (B : 0 < b) where
  pub quotient_is : k * b * u ≤ p → p < suc k * b * u → p / u / b ≡ k
  quotient_is h g = omega (arith, (le-div_iff_mul-le B).1 ((le-div_iff_mul-le U).1 h), (div-lt_iff_lt-mul B).1 ((div-lt_iff_lt-mul U).1 g))

  pub quotient_from : p / u / b ≡ k → k * b * u ≤ p
  quotient_from e = (le-div_iff_mul-le U).0 ((le-div_iff_mul-le B).0 (le_of_eq (sym e)))

  pub quotient_below : p / u / b ≡ k → p < suc k * b * u
  quotient_below e = (div-lt_iff_lt-mul U).0 ((div-lt_iff_lt-mul B).0 (omega arith))

-- ---- the cell of a finite float by its number
module _ (f : Format) where
  abbrev l : ℕ
  l = 2 ^ low f

  L : 0 < l
  L = pow_pos (low f)

  over : (b : ℕ) (x : Float) (p n : ℕ) → T (finite x) → Num f x p n → n ≡ 0 → cell_of (pos b) x ≡ pos (min (p / l) 2147483647 / b)
  over b nan p n t v h = absurd t
  over b (inf s) p n t v h = absurd t
  over b (fin false m e) p n t v h = cell_pos b m e ∙ ap (λ (q : ℕ). pos (min q 2147483647 / b)) (div_same (m * up e) (down e) p l (down_pos e) L v.0)
  over b (fin true m e) p n t v h =
      cell-zero b m e (scaled_zero n (down e) (m * up e) l L (sym v.0) h)
      ∙ sym (ap (λ (q : ℕ). pos (min (q / l) 2147483647 / b)) v.1 ∙ ap (λ (q : ℕ). pos (min q 2147483647 / b)) (zero-div l) ∙ ap pos (zero-div b))

  under : (b : ℕ) (x : Float) (p n : ℕ) → T (finite x) → Num f x p n → 0 < n → cell_of (pos b) x ≡ negsuc (min (n / l) 2147483648 / b)
  under b nan p n t v h = absurd t
  under b (inf s) p n t v h = absurd t
  under b (fin false m e) p n t v h = absurd (omega (arith, v.1))
  under b (fin true m e) p n t v h =
      let s : m * up e ≡ 0 → ⊥ = λ z. omega (arith, scaled_zero (m * up e) l n (down e) (down_pos e) v.0 z) in
      cell_neg b m e (omega arith) ∙ ap (λ (q : ℕ). negsuc (min q 2147483648 / b)) (div_same (m * up e) (down e) n l (down_pos e) L v.0)

  module _ (b : ℕ) (B : 0 < b) (x : Float) (p n : ℕ) (v : Num f x p n) (o : at f 21 < overflow f) (w : T (within 21 x)) where
    small : (a : ℕ) → a ≤ at f 21 → a / l ≤ 2097152
    small a h = div-le_of_le-mul l (le_trans h (le_of_eq (mul_comm 2097152 l)))

    least : (c q : ℕ) → 2097152 ≤ c → q ≤ 2097152 → min q c ≡ q
    least c q h g = omega arith

    pub cell_over : n ≡ 0 → cell_of (pos b) x ≡ pos (p / l / b)
    cell_over h = over b x p n (within_finite 21 x w) v h ∙ ap (λ (q : ℕ). pos (q / b)) (least 2147483647 (p / l) (omega arith) (small p (bounds f 21 x p n o v w).0))

    pub cell-under : 0 < n → cell_of (pos b) x ≡ negsuc (n / l / b)
    cell-under h = under b x p n (within_finite 21 x w) v h ∙ ap (λ (q : ℕ). negsuc (q / b)) (least 2147483648 (n / l) (omega arith) (small n (bounds f 21 x p n o v w).1))

    -- ---- a coordinate in cell k, and in cell -1 - k, by its number
    pub in_over : (k : ℕ) → n ≡ 0 → k * b * l ≤ p → p < suc k * b * l → cell_of (pos b) x ≡ pos k
    in_over k z h g = cell_over z ∙ ap pos (quotient_is p l b k L B h g)

    pub in_under : (k : ℕ) → 0 < n → k * b * l ≤ n → n < suc k * b * l → cell_of (pos b) x ≡ negsuc k
    in_under k z h g = cell-under z ∙ ap negsuc (quotient_is n l b k L B h g)

    pub over_in : (k : ℕ) → cell_of (pos b) x ≡ pos k → (n ≡ 0) × (k * b * l ≤ p) × (p < suc k * b * l)
    over_in k e = elim (eq-zero-or-pos n) [ inl z ↦ let q = ap mag (sym (cell_over z) ∙ e) in (z, quotient_from p l b k L B q, quotient_below p l b k L B q) | inr z ↦ absurd (subst (λ (c : ℤ). T (not (non_neg c))) (sym (cell-under z) ∙ e) tt) ]

    pub under_in : (k : ℕ) → cell_of (pos b) x ≡ negsuc k → (0 < n) × (k * b * l ≤ n) × (n < suc k * b * l)
    under_in k e = elim (eq-zero-or-pos n) [ inl z ↦ absurd (subst (λ (c : ℤ). T (non_neg c)) (sym (cell_over z) ∙ e) tt) | inr z ↦ let q = ap mag (sym (cell-under z) ∙ e) in (z, quotient_from n l b k L B q, quotient_below n l b k L B q) ]

    -- ---- by comparison: near is the edge of cell k next to zero, far the other
    module _ (k : ℕ) (near far : Float) where
      pub over_says : Num f near (k * b * l) 0 → Num f far (suc k * b * l) 0 → Says (le near x && lt x far) (cell_of (pos b) x ≡ pos k)
      over_says d g = says_via yes no (says_both (le near x) (lt x far))
        where
          yes : T (le near x) × T (lt x far) → cell_of (pos b) x ≡ pos k
          yes t =
              let h = le_num f near x (k * b * l) 0 p n d v t.0 in
              let i = lt_num f x far p n (suc k * b * l) 0 v g t.1 in
              let z : n ≡ 0 = ⊎_elim (λ e. omega arith) (λ e. e) (either f x p n v) in
              in_over k z (omega arith) (omega arith)

          no : cell_of (pos b) x ≡ pos k → T (le near x) × T (lt x far)
          no e = let (z, h, i) = over_in k e in (num_le f near x (k * b * l) 0 p n d v (omega arith), num_lt f x far p n (suc k * b * l) 0 v g (omega arith))

      -- below zero: mirrored, and zero itself left out
      pub under_says : Num f near (k * b * l) 0 → Num f far (suc k * b * l) 0 → (nought : Float) → Num f nought 0 0 → Says ((le near (neg x) && lt (neg x) far) && lt nought (neg x)) (cell_of (pos b) x ≡ negsuc k)
      under_says d g nought q = says_via yes no (says_both (le near (neg x) && lt (neg x) far) (lt nought (neg x)))
        where
          y : Float
          y = neg x

          u : Num f y n p
          u = neg_num f x p n v

          yes : T (le near y && lt y far) × T (lt nought y) → cell_of (pos b) x ≡ negsuc k
          yes t =
              let h = le_num f near y (k * b * l) 0 n p d u (and_l (le near y) (lt y far) t.0) in
              let i = lt_num f y far n p (suc k * b * l) 0 u g (and_r (le near y) (lt y far) t.0) in
              let j = lt_num f nought y 0 0 n p q u t.1 in
              let z : p ≡ 0 = ⊎_elim (λ e. e) (λ e. omega arith) (either f x p n v) in
              in_under k (omega arith) (omega arith) (omega arith)

          no : cell_of (pos b) x ≡ negsuc k → T (le near y && lt y far) × T (lt nought y)
          no e =
              let (z, h, i) = under_in k e in
              let o : p ≡ 0 = ⊎_elim (λ e. e) (λ e. omega arith) (either f x p n v) in
              (and_i (le near y) (lt y far) (num_le f near y (k * b * l) 0 n p d u (omega arith)) (num_lt f y far n p (suc k * b * l) 0 u g (omega arith)), num_lt f nought y 0 0 n p q u (omega arith))
