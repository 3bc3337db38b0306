-- Equal numbers, by the comparison of binary32: they have equal cells, and the same bits but for the sign of a zero. Assumes nothing.
use Rattle.basics.specs.Words.{ℕ, zero, suc, ◌*◌, ◌^◌, ◌<◌, ◌≡◌, refl, sym, ap, ◌∙◌, subst, Bool, true, false, ◌||◌, ◌⊎◌, inl, inr, T, eqb, leb→le, eqb→eq, ℤ, pos}
use Rattle.basics.specs.Words.{negsuc, mul-pos, zero-lt-suc, mul-one, pow-suc, arith}
use lib.Signed.{le_z}
use lib.Pow.{pow_pos}
use lib.Ieee.{Float, nan, inf, fin, binary32, up, down, fits, level, lt, eq, le, neg}
use lib.Ieee.Fits.{up_pos, down_pos, and_l, and_r}
use lib.Ieee.Scale.{finite}
use Rattle.basics.proofs.laws.Says.{d_lt}
use Rattle.geometry.proofs.laws.BitsLaws.{same_by_bits}
use Rattle.geometry.proofs.laws.Rounding.{number}
use Rattle.geometry.proofs.laws.Value.{eq_num}
use Rattle.cells.specs.Inner.Patterns.{number_at}
use Rattle.cells.specs.Meaning.CellRule.{cell_of}
use Rattle.cells.proofs.laws.CellRuleLaws.{mono}
use Rattle.cells.proofs.laws.Patterns.{numbers_rise, pattern}

-- ---- equal either way round, and so at most
swapped : (s t : Bool) (a b : ℕ) → T (level s a t b) → T (level t b s a)
swapped s t a b h =
    let e : a ≡ b = eqb→eq a b (and_l (eqb a b) _ h) in
    subst (λ (k : ℕ). T (level t k s a)) e (alike s t (subst (λ (k : ℕ). T (level s a t k)) (sym e) h))
  where
    alike : (s t : Bool) → T (level s a t a) → T (level t a s a)
    alike true true h = h
    alike true false h = h
    alike false true h = h
    alike false false h = h

eq_swap : (x y : Float) → T (eq x y) → T (eq y x)
unfolding eq
eq_swap nan y h = absurd h
eq_swap (inf s) nan h = absurd h
eq_swap (inf true) (inf true) h = tt
eq_swap (inf true) (inf false) h = absurd h
eq_swap (inf false) (inf true) h = absurd h
eq_swap (inf false) (inf false) h = tt
eq_swap (inf s) (fin t n d) h = absurd h
eq_swap (fin s m e) nan h = absurd h
eq_swap (fin s m e) (inf t) h = absurd h
eq_swap (fin s m e) (fin t n d) h = swapped s t (m * up e * down d) (n * up d * down e) h

at_most : (x y : Float) → T (eq x y) → T (le x y)
unfolding le
at_most x y h = either (lt x y)
  where
    either : (b : Bool) → T (b || eq x y)
    either true = tt
    either false = h

-- ---- their cells: the cell rule never falls
antisym : (z w : ℤ) → T (le_z z w) → T (le_z w z) → z ≡ w
antisym (pos a) (pos b) h k = ap pos (omega (arith, leb→le a b h, leb→le b a k))
antisym (pos a) (negsuc b) h k = absurd h
antisym (negsuc a) (pos b) h k = absurd k
antisym (negsuc a) (negsuc b) h k = ap negsuc (omega (arith, leb→le b a h, leb→le a b k))

pub equal_cell : (b : ℕ) → 0 < b → (x y : Float) → T (eq x y) → cell_of (pos b) x ≡ cell_of (pos b) y
equal_cell b B x y h = antisym _ _ (mono b B x y (at_most x y h)) (mono b B y x (at_most y x (eq_swap x y h)))

-- ---- their bits
abbrev pub Zero : Float → Type 0
Zero x = (s : Bool) × (x ≡ fin s 0 (pos 0))

-- the same as data, and so by bits, or two zeros
abbrev pub SameNumber : Float → Float → Type 0
SameNumber x y = (x ≡ y) ⊎ (Zero x × Zero y)

same_pattern : (a b : ℕ) → number_at a ≡ number_at b → a ≡ b
same_pattern a b e =
    elim (d_lt a b) [
      | inl l ↦ absurd (omega (arith, numbers_rise a b l))
      | inr l ↦ elim (d_lt b a) [ inl k ↦ absurd (omega (arith, numbers_rise b a k)) | inr k ↦ omega arith ]
    ]

-- without a sign
module _ (m n : ℕ) (e d : ℤ) (f : T (fits binary32 (fin false m e))) (g : T (fits binary32 (fin false n d))) where
  from_zero_up : T (eq (fin false m e) (fin false n d)) → fin false m e ≡ fin false n d
  from_zero_up h =
      let (p, a, v) = number binary32 (fin false m e) f tt in
      let (q, b, w) = number binary32 (fin false n d) g tt in
      let i : p ≡ q = omega (arith, eq_num binary32 (fin false m e) (fin false n d) p a q b v w h, v.1, w.1) in
      same_by_bits (fin false m e) (fin false n d) f g (same_pattern _ _ (sym (pattern m e p a v f).1 ∙ i ∙ (pattern n d q b w g).1))

-- a zero that fits
no_power : (e : ℤ) → up e * down e ≡ 1 → e ≡ pos 0
no_power (pos zero) h = refl
no_power (pos (suc k)) h = absurd (omega (arith, h, mul-one (2 ^ suc k), pow-suc 2 k, pow_pos k))
no_power (negsuc k) h = absurd (omega (arith, h, pow-suc 2 k, pow_pos k))

zero_of : (s : Bool) (m : ℕ) (e : ℤ) (d : ℕ) → 0 < d → T (fits binary32 (fin s m e)) → m * up e * d ≡ 0 → Zero (fin s m e)
unfolding fits
zero_of s zero e d D f h = (s, ap (fin s 0) (no_power e (eqb→eq (up e * down e) 1 f)))
zero_of s (suc m) e d D f h = absurd (omega (arith, h, mul-pos (mul-pos (zero-lt-suc m) (up_pos e)) D))

unsigned : (m : ℕ) (e : ℤ) → T (fits binary32 (fin true m e)) → T (fits binary32 (fin false m e))
unfolding fits
unsigned zero e f = f
unsigned (suc m) e f = f

-- of two signs
module _ (m n : ℕ) (e d : ℤ) where
  two-zeros : (s t : Bool) → T (fits binary32 (fin s m e)) → T (fits binary32 (fin t n d))
      → T (eqb (m * up e * down d) (n * up d * down e)) → T (eqb (m * up e * down d) 0) → SameNumber (fin s m e) (fin t n d)
  two-zeros s t f g i j =
      let z : m * up e * down d ≡ 0 = eqb→eq _ 0 j in
      inr (zero_of s m e (down d) (down_pos d) f z, zero_of t n d (down e) (down_pos e) g (sym (eqb→eq (m * up e * down d) (n * up d * down e) i) ∙ z))

pub same_number : (x y : Float) → T (fits binary32 x) → T (fits binary32 y) → T (finite x) → T (finite y) → T (eq x y) → SameNumber x y
unfolding eq neg
same_number nan y f g h k i = absurd h
same_number (inf s) y f g h k i = absurd h
same_number (fin s m e) nan f g h k i = absurd k
same_number (fin s m e) (inf t) f g h k i = absurd k
same_number (fin false m e) (fin false n d) f g h k i = inl (from_zero_up m n e d f g i)
same_number (fin true m e) (fin true n d) f g h k i = inl (ap neg (from_zero_up m n e d (unsigned m e f) (unsigned n d g) i))
same_number (fin false m e) (fin true n d) f g h k i = two-zeros m n e d false true f g (and_l (eqb (m * up e * down d) (n * up d * down e)) _ i) (and_r (eqb (m * up e * down d) (n * up d * down e)) _ i)
same_number (fin true m e) (fin false n d) f g h k i = two-zeros m n e d true false f g (and_l (eqb (m * up e * down d) (n * up d * down e)) _ i) (and_r (eqb (m * up e * down d) (n * up d * down e)) _ i)
