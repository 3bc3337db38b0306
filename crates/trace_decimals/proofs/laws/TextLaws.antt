-- The text of a number by its last digit, and how long it is. Assumes nothing.
use Rattle.basics.specs.Words.{ℕ, zero, suc, ◌+◌, ◌*◌, ◌/◌, ◌%◌, ◌^◌, ◌≤◌, ◌<◌, ◌≡◌, refl, ap, ◌∙◌, List, [], ◌∷◌, ◌++◌, ⊎_elim, length, length-append, get_or}
use Rattle.basics.specs.Words.{pow-suc, arith}
use Rattle.basics.proofs.laws.Says.{d_lt}
use Rattle.trace_decimals.specs.Meaning.Text.{leading, decimal}

-- how many digits there may be is no matter where they are enough
leading-same : (f g n : ℕ) → n ≤ f → n ≤ g → leading f n ≡ leading g n
unfolding leading
leading-same zero zero n h k = refl
leading-same zero (suc g) zero h k = refl
leading-same zero (suc g) (suc n) h k = absurd (omega arith)
leading-same (suc f) zero zero h k = refl
leading-same (suc f) zero (suc n) h k = absurd (omega arith)
leading-same (suc f) (suc g) zero h k = refl
leading-same (suc f) (suc g) (suc n) h k = ap (λ (l : List ℕ). l ++ ((48 + suc n % 10) ∷ [])) (leading-same f g (suc n / 10) (omega arith) (omega arith))

leading-none : (f : ℕ) → leading f 0 ≡ []
unfolding leading
leading-none zero = refl
leading-none (suc f) = refl

leading-some : (f n : ℕ) → 0 < n → n ≤ f → leading f n ≡ decimal n
unfolding leading decimal
leading-some zero n h k = absurd (omega arith)
leading-some (suc f) zero h k = absurd (omega arith)
leading-some (suc f) (suc n) h k = ap (λ (l : List ℕ). l ++ ((48 + suc n % 10) ∷ [])) (leading-same f (suc n) (suc n / 10) (omega arith) (omega arith))

pub one_digit : (n : ℕ) → n < 10 → decimal n ≡ (48 + n) ∷ []
unfolding decimal
one_digit n h =
    let q : n / 10 ≡ 0 = omega arith in
    let r : n % 10 ≡ n = omega arith in
    ap (λ (l : List ℕ). l ++ ((48 + n % 10) ∷ [])) (ap (leading n) q ∙ leading-none n) ∙ ap (λ (d : ℕ). (48 + d) ∷ []) r

pub last_digit : (n : ℕ) → 10 ≤ n → decimal n ≡ decimal (n / 10) ++ ((48 + n % 10) ∷ [])
unfolding decimal
last_digit n h = ap (λ (l : List ℕ). l ++ ((48 + n % 10) ∷ [])) (leading-some n (n / 10) (omega arith) (omega arith))

-- the same, of a number that is made by one more digit
pub next_digit : (v d : ℕ) → 0 < v → d < 10 → decimal (v * 10 + d) ≡ decimal v ++ ((48 + d) ∷ [])
next_digit v d h k =
    let q : (v * 10 + d) / 10 ≡ v = omega arith in
    let r : (v * 10 + d) % 10 ≡ d = omega arith in
    last_digit (v * 10 + d) (omega arith) ∙ (λ z. decimal (q z) ++ ((48 + r z) ∷ []))

-- what holds of the numbers of one digit, and of n where it holds of n without its last digit, holds of all
pub by_digits : {P : ℕ → Type 0} → ((n : ℕ) → n < 10 → P n) → ((n : ℕ) → 10 ≤ n → P (n / 10) → P n) → (n : ℕ) → P n
by_digits {P} base step n = go (suc n) n (omega arith)
  where
    go : (f n : ℕ) → n < f → P n
    go zero n h = absurd (omega arith)
    go (suc f) n h = ⊎_elim (λ l. base n l) (λ g. step n (omega (arith, g)) (go f (n / 10) (omega (arith, g)))) (d_lt n 10)

-- one digit more
pub longer : (n : ℕ) → 10 ≤ n → length (decimal n) ≡ suc (length (decimal (n / 10)))
longer n h = ap length (last_digit n h) ∙ length-append (decimal (n / 10)) ((48 + n % 10) ∷ []) ∙ omega arith

-- fewer than 10 ^ k, k digits at most
pub text_length : (k n : ℕ) → n < 10 ^ suc k → length (decimal n) ≤ suc k
text_length zero n h = omega (arith, ap length (one_digit n (omega arith)))
text_length (suc k) n h =
    ⊎_elim
    (λ l. omega (arith, ap length (one_digit n l)))
    (λ g. omega (arith, text_length k (n / 10) (omega (arith, pow-suc 10 (suc k))), longer n (omega (arith, g))))
    (d_lt n 10)

pub number-length : (n : ℕ) → n ≤ 4294967295 → length (decimal n) ≤ 10
number-length n h = text_length 9 n (omega arith)

-- the first byte of a number above 0 is no 0
pub no_leading-zero : (n : ℕ) → 0 < n → 48 < get_or (decimal n) 0 0
no_leading-zero = by_digits one more
  where
    one : (n : ℕ) → n < 10 → 0 < n → 48 < get_or (decimal n) 0 0
    one n l h = omega (arith, ap (λ (t : List ℕ). get_or t 0 0) (one_digit n l))

    keeps : (s t : List ℕ) → 48 < get_or s 0 0 → 48 < get_or (s ++ t) 0 0
    keeps [] t h = absurd (omega arith)
    keeps (c ∷ s) t h = h

    more : (n : ℕ) → 10 ≤ n → (0 < n / 10 → 48 < get_or (decimal (n / 10)) 0 0) → 0 < n → 48 < get_or (decimal n) 0 0
    more n l ih h = rw (last_digit n l) (keeps (decimal (n / 10)) ((48 + n % 10) ∷ []) (ih (omega arith)))
