-- The cell rule never falls as the coordinate rises, and the cells of what a call may ask for are small numbers. Assumes nothing.
use Rattle.basics.specs.Words.{ℕ, zero, suc, ◌*◌, ◌/◌, ◌≤◌, ◌<◌, min, zero-le, ◌≡◌, sym, ap, ◌∙◌, subst, Bool, true, false, ◌&&◌, ◌||◌, inl, inr, T, ltb, eqb}
use Rattle.basics.specs.Words.{ltb→lt, le→leb, eqb→eq, ℤ, pos, eq-zero-or-pos, le_of_lt, le_refl, le_of_eq, le_trans, zero-mul, mul-pos, zero-lt-suc, zero-div}
use Rattle.basics.specs.Words.{div-le_self, div-le_of_le-mul, mul-le-mul_right, arith}
use lib.Signed.{mag, le_z}
use lib.Ieee.{Float, nan, inf, fin, up, down, lt, eq, le}
use lib.Ieee.Fits.{down_pos, and_l, and_r}
use lib.Ieee.Nearest.{div_mono}
use Rattle.geometry.specs.Meaning.Domain.{within}
use Rattle.geometry.specs.declared.Position.{Position}
use Rattle.geometry.proofs.laws.Value.{or_cases}
use Rattle.cells.specs.Inner.Numbers.{Near}
use Rattle.cells.specs.Inner.CellRule.{Reached}
use Rattle.cells.specs.Meaning.CellRule.{cell_of, cell_at}
use Rattle.cells.proofs.laws.CellSignLaws.{cell_pos, cell_neg, cell-zero, cell_inf, cell_neg_inf}

-- ---- what `le` says of finite values
pub le_of_tests : (a b : ℕ) (q : Bool) → (T q → a ≡ b) → T (ltb a b || q) → a ≤ b
le_of_tests a b q f h = elim (or_cases (ltb a b) q h) [ inl u ↦ le_of_lt (ltb→lt a b u) | inr u ↦ le_of_eq (f u) ]

-- ---- the order
cap_mono : (n k c b : ℕ) → 0 < b → n ≤ k → min n c / b ≤ min k c / b
cap_mono n k c b B h = div_mono (min n c) b (min k c) b B B (mul-le-mul_right b (omega arith))

first_pos : (m u d : ℕ) → 0 < m * u * d → 0 < m * u
first_pos m u d h = go (m * u) h
  where
    go : (a : ℕ) → 0 < a * d → 0 < a
    go zero h = subst (λ (z : ℕ). 0 < z) (zero-mul d) h
    go (suc a) h = zero-lt-suc a

module _ (b : ℕ) (B : 0 < b) where
  abbrev Ordered : Float → Float → Type 0
  Ordered x y = T (le_z (cell_of (pos b) x) (cell_of (pos b) y))

  by : (x y : Float) (z w : ℤ) → cell_of (pos b) x ≡ z → cell_of (pos b) y ≡ w → T (le_z z w) → Ordered x y
  by x y z w p q h = subst (λ (k : ℤ). T (le_z k (cell_of (pos b) y))) (sym p) (subst (λ (k : ℤ). T (le_z z k)) (sym q) h)

  capped : (n c : ℕ) → min n c / b ≤ c / b
  capped n c = div_mono (min n c) b c b B B (mul-le-mul_right b (omega arith))

  pub mono : (x y : Float) → T (le x y) → Ordered x y
  unfolding le lt eq
  mono nan y h = absurd h
  mono (inf false) nan h = absurd h
  mono (inf true) nan h = absurd h
  mono (inf false) (inf true) h = absurd h
  mono (inf false) (inf false) h = by (inf false) (inf false) _ _ (cell_inf b) (cell_inf b) (le→leb _ _ (le_refl (2147483647 / b)))
  mono (inf true) (inf true) h = by (inf true) (inf true) _ _ (cell_neg_inf b) (cell_neg_inf b) (le→leb _ _ (le_refl (2147483648 / b)))
  mono (inf true) (inf false) h = by (inf true) (inf false) _ _ (cell_neg_inf b) (cell_inf b) tt
  mono (inf false) (fin t n d) h = absurd h
  mono (inf true) (fin false n d) h = by (inf true) (fin false n d) _ _ (cell_neg_inf b) (cell_pos b n d) tt
  mono (inf true) (fin true n d) h =
      elim (eq-zero-or-pos (n * up d)) [
        | inl z ↦ by (inf true) (fin true n d) _ _ (cell_neg_inf b) (cell-zero b n d z) tt
        | inr k ↦ by (inf true) (fin true n d) _ _ (cell_neg_inf b) (cell_neg b n d k) (le→leb _ _ (capped (n * up d / down d) 2147483648))
      ]
  mono (fin s m e) nan h = absurd h
  mono (fin s m e) (inf true) h = absurd h
  mono (fin false m e) (inf false) h = by (fin false m e) (inf false) _ _ (cell_pos b m e) (cell_inf b) (le→leb _ _ (capped (m * up e / down e) 2147483647))
  mono (fin true m e) (inf false) h =
      elim (eq-zero-or-pos (m * up e)) [
        | inl z ↦ by (fin true m e) (inf false) _ _ (cell-zero b m e z) (cell_inf b) (le→leb 0 (2147483647 / b) zero-le)
        | inr k ↦ by (fin true m e) (inf false) _ _ (cell_neg b m e k) (cell_inf b) tt
      ]
  mono (fin false m e) (fin false n d) h =
      let l : m * up e * down d ≤ n * up d * down e =
      le_of_tests (m * up e * down d) (n * up d * down e) (eqb (m * up e * down d) (n * up d * down e) && true)
      (λ t. eqb→eq (m * up e * down d) (n * up d * down e) (and_l (eqb (m * up e * down d) (n * up d * down e)) true t)) h in
      by (fin false m e) (fin false n d) _ _ (cell_pos b m e) (cell_pos b n d)
      (le→leb _ _ (cap_mono (m * up e / down e) (n * up d / down d) 2147483647 b B (div_mono (m * up e) (down e) (n * up d) (down d) (down_pos e) (down_pos d) l)))
  mono (fin false m e) (fin true n d) h =
      let x = m * up e * down d in
      let y = n * up d * down e in
      let t1 : x ≡ y = eqb→eq x y (and_l (eqb x y) (eqb x 0) h) in
      let t2 : x ≡ 0 = eqb→eq x 0 (and_r (eqb x y) (eqb x 0) h) in
      by (fin false m e) (fin true n d) _ _ (cell_pos b m e) (cell-zero b n d (no_size n (up d) (down e) (down_pos e) (sym t1 ∙ t2)))
      (le→leb _ _ (le_of_eq (ap (λ (k : ℕ). min (k / down e) 2147483647 / b) (no_size m (up e) (down d) (down_pos d) t2) ∙ ap (λ (k : ℕ). min k 2147483647 / b) (zero-div (down e)) ∙ zero-div b)))
    where
      no_size : (m u d : ℕ) → 0 < d → m * u * d ≡ 0 → m * u ≡ 0
      no_size m u d D z = elim (eq-zero-or-pos (m * u)) [ inl k ↦ k | inr k ↦ absurd (omega (arith, mul-pos k D)) ]
  mono (fin true m e) (fin false n d) h =
      elim (eq-zero-or-pos (m * up e)) [
        | inl z ↦ by (fin true m e) (fin false n d) _ _ (cell-zero b m e z) (cell_pos b n d) (le→leb 0 (min (n * up d / down d) 2147483647 / b) zero-le)
        | inr k ↦ by (fin true m e) (fin false n d) _ _ (cell_neg b m e k) (cell_pos b n d) tt
      ]
  mono (fin true m e) (fin true n d) h =
      let x = m * up e * down d in
      let y = n * up d * down e in
      let l : y ≤ x = le_of_tests y x (eqb x y && true) (λ t. sym (eqb→eq x y (and_l (eqb x y) true t))) h in
      elim (eq-zero-or-pos (n * up d)) [
        | inl z ↦
            elim (eq-zero-or-pos (m * up e)) [
              | inl w ↦ by (fin true m e) (fin true n d) _ _ (cell-zero b m e w) (cell-zero b n d z) tt
              | inr k ↦ by (fin true m e) (fin true n d) _ _ (cell_neg b m e k) (cell-zero b n d z) tt
            ]
        | inr k ↦
            by (fin true m e) (fin true n d) _ _ (cell_neg b m e (first_pos m (up e) (down d) (omega (arith, mul-pos k (down_pos e))))) (cell_neg b n d k)
            (le→leb _ _ (cap_mono (n * up d / down d) (m * up e / down e) 2147483648 b B (div_mono (n * up d) (down d) (m * up e) (down e) (down_pos d) (down_pos e) l)))
      ]

-- ---- cells of coordinates within 2 ^ 21 have numbers of at most 2 ^ 21, and of -2 ^ 21 less one
capped_by : (a d c b : ℕ) → a * 1 ≤ 1 * 2097152 * d → min (a / d) c / b ≤ 2097152
capped_by a d c b h =
    let t : a ≤ d * 2097152 = omega arith in
    le_trans (div-le_self (min (a / d) c) b) (omega (arith, div-le_of_le-mul d t))

by_mag : (z w : ℤ) → z ≡ w → mag w ≤ 2097152 → mag z ≤ 2097152
by_mag z w e h = subst (λ (k : ℤ). mag k ≤ 2097152) (sym e) h

pub cell-small : (b : ℕ) (x : Float) → T (within 21 x) → mag (cell_of (pos b) x) ≤ 2097152
unfolding lt le eq
cell-small b nan h = absurd h
cell-small b (inf true) h = absurd h
cell-small b (inf false) h = absurd h
cell-small b (fin false m e) h =
    let x = m * up e * 1 in
    let y = 1 * 2097152 * down e in
    by_mag _ _ (cell_pos b m e)
    (capped_by (m * up e) (down e) 2147483647 b
    (le_of_tests x y (eqb x y && true) (λ t. eqb→eq x y (and_l (eqb x y) true t))
    (and_r (le (fin true 1 (pos 21)) (fin false m e)) (le (fin false m e) (fin false 1 (pos 21))) h)))
cell-small b (fin true m e) h =
    let x = 1 * 2097152 * down e in
    let y = m * up e * 1 in
    elim (eq-zero-or-pos (m * up e)) [
      | inl z ↦ by_mag _ _ (cell-zero b m e z) zero-le
      | inr k ↦
          by_mag _ _ (cell_neg b m e k)
          (capped_by (m * up e) (down e) 2147483648 b
          (le_of_tests y x (eqb x y && true) (λ t. sym (eqb→eq x y (and_l (eqb x y) true t)))
          (and_l (le (fin true 1 (pos 21)) (fin true m e)) (le (fin true m e) (fin false 1 (pos 21))) h)))
    ]

pub cell-near : (size : ℕ) (p : Position) → Reached p → Near (cell_at size p)
cell-near size p h = record { x = omega (arith, cell-small size p.x h.0); y = omega (arith, cell-small size p.y h.1) }
