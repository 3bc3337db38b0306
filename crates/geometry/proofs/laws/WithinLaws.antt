-- Within a bound a float is finite, and a sum or a difference of two within 2 ^ j is within 2 ^ (j + 1). Assumes nothing.
use Rattle.basics.specs.Words.{ℕ, suc, ◌+◌, ◌-◌, ◌*◌, ◌^◌, ◌≤◌, ◌<◌, ◌≡◌, refl, sym, ap, ◌∙◌, true, false, ⊎_elim, T, pos, le_trans, le_of_eq, one-mul, mul-one}
use Rattle.basics.specs.Words.{add-mul, pow-suc, arith}
use lib.Ieee.{Float, nan, inf, fin, Format, low, lt, eq, le, add, sub, fits}
use lib.Ieee.Fits.{and_i, and_l, and_r}
use lib.Ieee.Scale.{finite, overflow}
use Rattle.geometry.specs.Meaning.Domain.{within}
use Rattle.geometry.specs.Inner.Value.{Num}
use Rattle.geometry.proofs.laws.Value.{le_num, either}
use Rattle.geometry.proofs.laws.Rounding.{R, R_mono, number, fixed}
use Rattle.geometry.proofs.laws.Sums.{add_num, sub_num}
use Rattle.geometry.proofs.laws.Back.{num_le}

pub within_finite : (j : ℕ) (x : Float) → T (within j x) → T (finite x)
unfolding le lt eq
within_finite j nan h = h
within_finite j (inf true) h = h
within_finite j (inf false) h = h
within_finite j (fin s m e) h = tt

module _ (f : Format) where
  abbrev l : ℕ
  l = 2 ^ low f

  -- 2 ^ j in units
  abbrev pub at : ℕ → ℕ
  at j = 2 ^ j * l

  pub power : (j : ℕ) → at j < overflow f → Num f (fin false 1 (pos j)) (at j) 0
  power j o = (ap (λ (z : ℕ). z * l) (one-mul (2 ^ j)) ∙ sym (mul-one (at j)), refl, o)

  pub power' : (j : ℕ) → at j < overflow f → Num f (fin true 1 (pos j)) 0 (at j)
  power' j o = (ap (λ (z : ℕ). z * l) (one-mul (2 ^ j)) ∙ sym (mul-one (at j)), refl, o)

  pub bounds : (j : ℕ) (x : Float) (p n : ℕ) → at j < overflow f → Num f x p n → T (within j x) → (p ≤ at j) × (n ≤ at j)
  bounds j x p n o v h =
      let a = le_num f (fin true 1 (pos j)) x 0 (at j) p n (power' j o) v (and_l (le (fin true 1 (pos j)) x) (le x (fin false 1 (pos j))) h) in
      let b = le_num f x (fin false 1 (pos j)) p n (at j) 0 v (power j o) (and_r (le (fin true 1 (pos j)) x) (le x (fin false 1 (pos j))) h) in
      ⊎_elim (λ e. omega arith) (λ e. omega arith) (either f x p n v)

  pub bounded : (j : ℕ) (x : Float) (p n : ℕ) → at j < overflow f → Num f x p n → p ≤ at j → n ≤ at j → T (within j x)
  bounded j x p n o v a b =
      and_i (le (fin true 1 (pos j)) x) (le x (fin false 1 (pos j)))
      (num_le f (fin true 1 (pos j)) x 0 (at j) p n (power' j o) v (omega arith)) (num_le f x (fin false 1 (pos j)) p n (at j) 0 v (power j o) (omega arith))

  twice : (j : ℕ) → at j + at j ≡ at (suc j)
  twice j = sym (add-mul (2 ^ j) (2 ^ j) l) ∙ ap (λ (z : ℕ). z * l) ((omega arith) ∙ sym (pow-suc 2 j))

  module _ (j : ℕ) (x y : Float) (fx : T (fits f x)) (fy : T (fits f y)) (gx : T (finite x)) (gy : T (finite y)) (hx : T (within j x)) (hy : T (within j y)) (room : at (suc j) < overflow f) (top : T (fits f (fin false 1 (pos (suc j))))) where
    abbrev nx : (p : ℕ) × (n : ℕ) × Num f x p n
    nx = number f x fx gx

    abbrev ny : (p : ℕ) × (n : ℕ) × Num f y p n
    ny = number f y fy gy

    half : at j < overflow f
    half = omega (arith, twice j)

    bx : (nx.0 ≤ at j) × (nx.1 ≤ at j)
    bx = bounds j x nx.0 nx.1 half nx.2 hx

    by : (ny.0 ≤ at j) × (ny.1 ≤ at j)
    by = bounds j y ny.0 ny.1 half ny.2 hy

    stays : R f (at (suc j)) ≡ at (suc j)
    stays = (fixed f (fin false 1 (pos (suc j))) (at (suc j)) 0 top tt (power (suc j) room)).0

    -- a + b - c, rounded, with a and b up to 2 ^ j
    up_to : (a b c : ℕ) → a ≤ at j → b ≤ at j → R f (a + b - c) ≤ at (suc j)
    up_to a b c p q = le_trans (R_mono f (a + b - c) (at (suc j)) (omega (arith, twice j))) (le_of_eq stays)

    pub add-within : T (within (suc j) (add f x y))
    add-within =
        let (p, n, v) = nx in
        let (q, k, w) = ny in
        bounded (suc j) (add f x y) (R f (p + q - (n + k))) (R f (n + k - (p + q))) room (add_num f x y p n q k gx gy v w) (up_to p q (n + k) bx.0 by.0) (up_to n k (p + q) bx.1 by.1)

    pub sub_within : T (within (suc j) (sub f x y))
    sub_within =
        let (p, n, v) = nx in
        let (q, k, w) = ny in
        bounded (suc j) (sub f x y) (R f (p + k - (n + q))) (R f (n + q - (p + k))) room (sub_num f x y p n q k gx gy v w) (up_to p k (n + q) bx.0 by.1) (up_to n q (p + k) bx.1 by.0)
