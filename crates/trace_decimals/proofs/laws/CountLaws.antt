-- A field reads as the count k exactly when it is the text of k, and k is not too far from 0. Assumes nothing.
use Rattle.basics.specs.Words.{ℕ, zero, suc, ◌≤◌, ◌≡◌, refl, sym, ap, ◌∙◌, Bool, true, false, List, [], ◌∷◌, ⊎_elim, get_or, eqb, ℤ, pos, negsuc, nat_abs, arith}
use Rattle.basics.specs.Words.{eqb-true, ne_eqb}
use Rattle.basics.specs.Meaning.Refusals.{pick}
use Rattle.basics.proofs.laws.Says.{d_lt}
use Rattle.std.specs.Prelude.{Option, Some, None}
use Rattle.trace_decimals.specs.Meaning.Text.{decimal, signed_text}
use Rattle.trace_decimals.proofs.laws.TextLaws.{one_digit, no_leading-zero}
use Rattle.trace_decimals.specs.Meaning.Fields.{up_to, farthest, plain, negative, count_of}
use Rattle.trace_decimals.specs.Inner.Fields.{Short}
use Rattle.trace_decimals.proofs.laws.FieldLaws.{up_to_text, up_to_read}

pub uncounted : {k : ℤ} → None ≡ Some k → ⊥
uncounted e = let z : ◌≡◌ {A = ℕ} 0 1 = cc in omega arith

-- what is read of a field that holds a count is short
pub short : (l : List ℕ) → Short (up_to farthest l)
short l = go (up_to farthest l) refl
  where
    go : (n : Option ℕ) → up_to farthest l ≡ n → Short n
    go (Some n) e = (up_to_text farthest l n e).1
    go None e = tt

-- ---- what reads is the text
abbrev IsCount : List ℕ → ℤ → Type 0
IsCount l k = (l ≡ signed_text k) × (nat_abs k ≤ 1048576)

plain_text : (l : List ℕ) (n : Option ℕ) (k : ℤ) → up_to farthest l ≡ n → plain n ≡ Some k → IsCount l k
unfolding signed_text
plain_text l (Some n) (pos m) e f =
    let q : n ≡ m = cc in
    let t = up_to_text farthest l n e in
    (t.0 ∙ ap decimal q, omega (arith, t.1))
plain_text l (Some n) (negsuc m) e f = absurd (let z : ◌≡◌ {A = ℕ} 0 1 = cc in omega arith)
plain_text l None k e f = absurd (uncounted f)

negative_text : (l : List ℕ) (n : Option ℕ) (k : ℤ) → up_to farthest l ≡ n → negative n ≡ Some k → IsCount (45 ∷ l) k
unfolding signed_text
negative_text l (Some zero) k e f = absurd (uncounted f)
negative_text l (Some (suc n)) (pos m) e f = absurd (let z : ◌≡◌ {A = ℕ} 0 1 = cc in omega arith)
negative_text l (Some (suc n)) (negsuc m) e f =
    let q : n ≡ m = cc in
    let t = up_to_text farthest l (suc n) e in
    (ap (λ (x : List ℕ). 45 ∷ x) (t.0 ∙ ap (λ (i : ℕ). decimal (suc i)) q), omega (arith, t.1))
negative_text l None k e f = absurd (uncounted f)

pub count_text : (l : List ℕ) (k : ℤ) → count_of l ≡ Some k → (l ≡ signed_text k) × (nat_abs k ≤ 1048576)
unfolding count_of
count_text [] k e = absurd (uncounted e)
count_text (c ∷ l) k e = go (eqb c 45) refl e
  where
    go : (x : Bool) → eqb c 45 ≡ x → pick x (negative (up_to farthest l)) (plain (up_to farthest (c ∷ l))) ≡ Some k → IsCount (c ∷ l) k
    go true p f =
        let t = negative_text l (up_to farthest l) k refl f in
        (ap (λ (x : ℕ). x ∷ l) (eqb-true c 45 p) ∙ t.0, t.1)
    go false p f = plain_text (c ∷ l) (up_to farthest (c ∷ l)) k refl f

-- ---- a text reads
pub first_digit : (n : ℕ) → 48 ≤ get_or (decimal n) 0 0
first_digit n = ⊎_elim (λ g. omega (arith, no_leading-zero n g)) (λ g. omega (arith, ap (λ (t : List ℕ). get_or t 0 0) (one_digit n (omega (arith, g))))) (d_lt 0 n)

no_minus : (l : List ℕ) → 48 ≤ get_or l 0 0 → count_of l ≡ plain (up_to farthest l)
unfolding count_of
no_minus [] h = absurd (omega arith)
no_minus (c ∷ l) h = simp (ne_eqb c 45 (λ e. omega arith))

signed_read : (k : ℤ) → nat_abs k ≤ 1048576 → count_of (signed_text k) ≡ Some k
unfolding signed_text count_of
signed_read (pos n) h = no_minus (decimal n) (first_digit n) ∙ ap plain (up_to_read farthest n h)
signed_read (negsuc n) h = ap negative (up_to_read farthest (suc n) h)

pub count-read : (l : List ℕ) (k : ℤ) → (l ≡ signed_text k) × (nat_abs k ≤ 1048576) → count_of l ≡ Some k
count-read l k h = ap count_of h.0 ∙ signed_read k h.1

pub no_count : (l : List ℕ) → count_of l ≡ None → (k : ℤ) → nat_abs k ≤ 1048576 → l ≡ signed_text k → ⊥
no_count l e k h t = uncounted (sym e ∙ count-read l k (t, h))
