-- The cell of a coordinate by its sign and its magnitude, where no minus one or quotient is left to work out. Assumes nothing.
use Rattle.basics.specs.Words.{ℕ, zero, suc, ◌+◌, ◌*◌, ◌/◌, ◌≤◌, ◌<◌, min, zero-le, ◌≡◌, refl, sym, ap, ◌∙◌, subst, Bool, true, false, cond, ltb, ℤ, pos}
use Rattle.basics.specs.Words.{negsuc, neg_ℤ, ◌-ℤ◌, pred_ℤ, -ℤ_one, zero-mul, zero-div, arith, lt-ltb, le-ltb}
use lib.Signed.{quot_z}
use lib.Ieee.{inf, fin, up, down}
use Rattle.cells.specs.Meaning.CellRule.{cell_of}

-- ---- whether the coordinate is below zero
not_below : (a d : ℕ) → ltb (a * 1) (0 * 1 * d) ≡ false
not_below a d = le-ltb (a * 1) (0 * 1 * d) (subst (λ (z : ℕ). z ≤ a * 1) (sym (zero-mul d)) zero-le)

below : (a d : ℕ) → 0 < a → ltb 0 (a * 1 + 0 * 1 * d) ≡ true
below a d h = lt-ltb 0 (a * 1 + 0 * 1 * d) (omega arith)

zero_not_below : (a d : ℕ) → a ≡ 0 → ltb 0 (a * 1 + 0 * 1 * d) ≡ false
zero_not_below a d h = le-ltb 0 (a * 1 + 0 * 1 * d) (omega (arith, zero-mul d))

-- ---- the quotient of a number that is not positive, and one less
less_one : (q : ℕ) → neg_ℤ (pos q) -ℤ pos 1 ≡ negsuc q
less_one q = -ℤ_one (neg_ℤ (pos q)) ∙ go q
  where
    go : (q : ℕ) → pred_ℤ (neg_ℤ (pos q)) ≡ negsuc q
    go zero = refl
    go (suc q) = refl

quot_neg : (n b : ℕ) → quot_z (neg_ℤ (pos n)) (pos b) ≡ neg_ℤ (pos (n / b))
quot_neg zero b = ap pos (zero-div b) ∙ ap (λ (q : ℕ). neg_ℤ (pos q)) (sym (zero-div b))
quot_neg (suc n) b = refl

-- ---- the cell
pub cell_pos : (b m : ℕ) (e : ℤ) → cell_of (pos b) (fin false m e) ≡ pos (min (m * up e / down e) 2147483647 / b)
unfolding cell_of
cell_pos b m e =
    let q = pos (min (m * up e / down e) 2147483647 / b) in
    ap (λ (t : Bool). cond t (q -ℤ pos 1) q) (not_below (m * up e) (down e))

pub cell_neg : (b m : ℕ) (e : ℤ) → 0 < m * up e → cell_of (pos b) (fin true m e) ≡ negsuc (min (m * up e / down e) 2147483648 / b)
unfolding cell_of
cell_neg b m e h =
    let n = min (m * up e / down e) 2147483648 in
    let q = quot_z (neg_ℤ (pos n)) (pos b) in
    ap (λ (t : Bool). cond t (q -ℤ pos 1) q) (below (m * up e) (down e) h)
    ∙ ap (λ (z : ℤ). z -ℤ pos 1) (quot_neg n b) ∙ less_one (n / b)

-- -0.0
pub cell-zero : (b m : ℕ) (e : ℤ) → m * up e ≡ 0 → cell_of (pos b) (fin true m e) ≡ pos 0
unfolding cell_of
cell-zero b m e h =
    let n = min (m * up e / down e) 2147483648 in
    let q = quot_z (neg_ℤ (pos n)) (pos b) in
    let z : n ≡ 0 = ap (λ (k : ℕ). min (k / down e) 2147483648) h ∙ ap (λ (k : ℕ). min k 2147483648) (zero-div (down e)) in
    ap (λ (t : Bool). cond t (q -ℤ pos 1) q) (zero_not_below (m * up e) (down e) h)
    ∙ ap (λ (k : ℕ). quot_z (neg_ℤ (pos k)) (pos b)) z ∙ ap pos (zero-div b)

pub cell_inf : (b : ℕ) → cell_of (pos b) (inf false) ≡ pos (2147483647 / b)
unfolding cell_of
cell_inf b = refl

pub cell_neg_inf : (b : ℕ) → cell_of (pos b) (inf true) ≡ negsuc (2147483648 / b)
unfolding cell_of
cell_neg_inf b = ap (λ (z : ℤ). z -ℤ pos 1) (quot_neg 2147483648 b) ∙ less_one (2147483648 / b)
