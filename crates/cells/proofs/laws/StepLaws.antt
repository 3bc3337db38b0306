-- Whole numbers by the steps between them: of two, one is some steps above the other, and that settles `le_z` and `count_from`.
-- Assumes nothing.
use Rattle.basics.specs.Words.{ℕ, suc, ◌+◌, ◌-◌, ◌<◌, ◌≡◌, refl, sym, ap, ◌∙◌, Bool, true, false, cond, ◌⊎◌, inl, inr, ltb, ℤ, pos, negsuc, neg_ℤ, ◌+ℤ◌, ◌-ℤ◌}
use Rattle.basics.specs.Words.{+ℤ_comm, +ℤ_assoc, +ℤ_idl, +ℤ_invr, +ℤ-neg_ℤ_cancel, -ℤ-+ℤ_cancel, neg_ℤ-+ℤ, neg_ℤ-neg_ℤ, arith, ltb-true, lt-ltb, le-ltb, le-leb}
use Rattle.basics.specs.Words.{lt-leb}
use lib.Signed.{le_z}
use Rattle.basics.proofs.laws.Says.{apart, d_lt}
use Rattle.cells.specs.Meaning.Range.{counted, count_from}

abbrev pub Compared : ℤ → ℤ → Type 0
Compared a b = ((k : ℕ) × (b ≡ a +ℤ pos k)) ⊎ ((k : ℕ) × (a ≡ b +ℤ pos (suc k)))

rest : (a b : ℤ) → a +ℤ (b -ℤ a) ≡ b
rest a b = +ℤ_comm a (b -ℤ a) ∙ -ℤ-+ℤ_cancel b a

turn : (a b : ℤ) → a -ℤ b ≡ neg_ℤ (b -ℤ a)
turn a b = +ℤ_comm a (neg_ℤ b) ∙ ap (λ (z : ℤ). neg_ℤ b +ℤ z) (sym (neg_ℤ-neg_ℤ a)) ∙ sym (neg_ℤ-+ℤ b (neg_ℤ a))

pub compare : (a b : ℤ) → Compared a b
compare a b = go (b -ℤ a) refl
  where
    go : (d : ℤ) → b -ℤ a ≡ d → Compared a b
    go (pos k) e = inl (k, sym (rest a b) ∙ ap (λ (z : ℤ). a +ℤ z) e)
    go (negsuc k) e = inr (k, sym (rest b a) ∙ ap (λ (z : ℤ). b +ℤ z) (turn a b ∙ ap neg_ℤ e))

pub add-steps : (a : ℤ) (i j : ℕ) → a +ℤ pos i +ℤ pos j ≡ a +ℤ pos (i + j)
add-steps a i j = +ℤ_assoc a (pos i) (pos j)

-- ---- what `le_z` says
pub le_step : (a : ℤ) (k : ℕ) → le_z a (a +ℤ pos k) ≡ true
le_step (pos a) k = le-leb a (a + k) (omega arith)
le_step (negsuc a) k = elim (d_lt k (suc a)) [ inl g ↦ rw (lt-ltb k (suc a) g) (le-leb (suc a - suc k) a (omega arith)) | inr g ↦ rw (le-ltb k (suc a) (omega arith)) ]

pub past_step : (b : ℤ) (k : ℕ) → le_z (b +ℤ pos (suc k)) b ≡ false
past_step (pos b) k = lt-leb (b + suc k) b (omega arith)
past_step (negsuc b) k = go (ltb (suc k) (suc b)) refl
  where
    go : (t : Bool) → ltb (suc k) (suc b) ≡ t → le_z (cond t (negsuc (suc b - suc (suc k))) (pos (suc k - suc b))) (negsuc b) ≡ false
    go true e = lt-leb b (suc b - suc (suc k)) (omega (arith, ltb-true (suc k) (suc b) e))
    go false e = refl

-- ---- what `count_from` says
pub count_step : (a : ℤ) (k : ℕ) → count_from a (a +ℤ pos k) ≡ suc k
count_step a k = ap counted (ap (λ (z : ℤ). z -ℤ a) (+ℤ_comm a (pos k)) ∙ +ℤ-neg_ℤ_cancel (pos k) a)

pub count_past : (b : ℤ) (k : ℕ) → count_from (b +ℤ pos (suc k)) b ≡ 0
count_past b k =
    ap counted
    (ap (λ (z : ℤ). b +ℤ z) (neg_ℤ-+ℤ b (pos (suc k))) ∙ sym (+ℤ_assoc b (neg_ℤ b) (negsuc k))
    ∙ ap (λ (z : ℤ). z +ℤ negsuc k) (+ℤ_invr b) ∙ +ℤ_idl (negsuc k))

-- the other end of what is not reversed
pub reached : (a b : ℤ) → le_z a b ≡ true → (k : ℕ) × (b ≡ a +ℤ pos k)
reached a b h = elim (compare a b) [ inl s ↦ s | inr (k, e) ↦ absurd (apart (sym (ap (λ (z : ℤ). le_z z b) e ∙ past_step b k) ∙ h)) ]

pub reversed : (a b : ℤ) → le_z a b ≡ false → count_from a b ≡ 0
reversed a b h = go (compare a b)
  where
    go : Compared a b → count_from a b ≡ 0
    go (inl (k, e)) = absurd (apart (sym h ∙ ap (le_z a) e ∙ le_step a k))
    go (inr (k, e)) = ap (λ (z : ℤ). count_from z b) e ∙ count_past b k

-- ---- a number of a range is some steps from its start
abbrev pub Step : ℤ → ℤ → ℤ → Type 0
Step a b c = (i : ℕ) × (i < count_from a b) × (c ≡ a +ℤ pos i)

pub step_of : (a b c : ℤ) → le_z a c ≡ true → le_z c b ≡ true → Step a b c
step_of a b c h k = go (reached a c h) (reached c b k)
  where
    go : (i : ℕ) × (c ≡ a +ℤ pos i) → (j : ℕ) × (b ≡ c +ℤ pos j) → Step a b c
    go (i, p) (j, q) =
        let n : count_from a b ≡ suc (i + j) =
        ap (count_from a) (q ∙ ap (λ (z : ℤ). z +ℤ pos j) p ∙ add-steps a i j) ∙ count_step a (i + j) in (i, omega arith, p)

pub of_step : (a b c : ℤ) → Step a b c → (le_z a c ≡ true) × (le_z c b ≡ true)
of_step a b c (i, h, p) = (ap (le_z a) p ∙ le_step a i, go (compare a b))
  where
    go : Compared a b → le_z c b ≡ true
    go (inl (k, e)) =
        let n : count_from a b ≡ suc k = ap (count_from a) e ∙ count_step a k in
        let j : i + (k - i) ≡ k = omega arith in
        ap (le_z c) (e ∙ ap (λ (n : ℕ). a +ℤ pos n) (sym j) ∙ sym (add-steps a i (k - i)) ∙ ap (λ (z : ℤ). z +ℤ pos (k - i)) (sym p)) ∙ le_step c (k - i)
    go (inr (k, e)) = let n : count_from a b ≡ 0 = ap (λ (z : ℤ). count_from z b) e ∙ count_past b k in absurd (omega arith)
