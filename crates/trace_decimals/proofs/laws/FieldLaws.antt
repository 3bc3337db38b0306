-- A field reads as n exactly when it is the text of n, and n is not too large. Assumes nothing.
use Rattle.basics.specs.Words.{ℕ, ◌+◌, ◌-◌, ◌*◌, ◌/◌, ◌%◌, ◌≤◌, ◌<◌, ◌≡◌, refl, sym, ap, ◌∙◌, Bool, true, false, ◌&&◌, List, [], ◌∷◌, ◌++◌, append_assoc}
use Rattle.basics.specs.Words.{append-nil, ⊎_elim, get_or, leb, eqb, arith, leb-true, eqb-false, le-leb, ne_eqb}
use Rattle.basics.specs.Meaning.Refusals.{pick}
use Rattle.basics.proofs.laws.Says.{d_lt}
use Rattle.std.specs.Prelude.{Some, None}
use Rattle.trace_decimals.specs.Meaning.Text.{decimal}
use Rattle.trace_decimals.proofs.laws.TextLaws.{one_digit, last_digit, next_digit, by_digits, no_leading-zero}
use Rattle.trace_decimals.specs.Meaning.Fields.{more, digits_from, up_to, largest, number_of}

-- ---- one byte more
takes : (most v c : ℕ) (l : List ℕ) → 48 ≤ c → c ≤ 57 → more v c ≤ most → digits_from most v (c ∷ l) ≡ digits_from most (more v c) l
unfolding digits_from
takes most v c l h k m = simp (le-leb 48 c h, le-leb c 57 k, le-leb (more v c) most m)

-- what a byte was that did not make the field unreadable
pub record Taken (most v c : ℕ) (l : List ℕ) (n : ℕ) : Type 0 where
  pub low : 48 ≤ c
  pub high : c ≤ 57
  pub small : more v c ≤ most
  pub rest : digits_from most (more v c) l ≡ Some n

pub unread : {n : ℕ} → None ≡ Some n → ⊥
unread e = let z : ◌≡◌ {A = ℕ} 0 1 = cc in omega arith

taken : (most v c : ℕ) (l : List ℕ) (n : ℕ) → digits_from most v (c ∷ l) ≡ Some n → Taken most v c l n
unfolding digits_from
taken most v c l n e = go (leb 48 c) (leb c 57) (leb (more v c) most) refl refl refl e
  where
    go : (x y z : Bool) → leb 48 c ≡ x → leb c 57 ≡ y → leb (more v c) most ≡ z → pick ((x && y) && z) (digits_from most (more v c) l) None ≡ Some n → Taken most v c l n
    go true true true p q r f = record { low = leb-true 48 c p; high = leb-true c 57 q; small = leb-true (more v c) most r; rest = f }
    go true true false p q r f = absurd (unread f)
    go true false z p q r f = absurd (unread f)
    go false y z p q r f = absurd (unread f)

pub same_number : {m n : ℕ} → Some m ≡ Some n → m ≡ n
same_number e = cc

-- ---- what reads is small, and is the text
pub read_small : (most v : ℕ) (l : List ℕ) (n : ℕ) → v ≤ most → digits_from most v l ≡ Some n → n ≤ most
unfolding digits_from
read_small most v [] n h e = omega (arith, same_number e)
read_small most v (c ∷ l) n h e = let t = taken most v c l n e in read_small most (more v c) l n t.small t.rest

reads_on : (most v : ℕ) (l : List ℕ) (n : ℕ) → 0 < v → digits_from most v l ≡ Some n → decimal v ++ l ≡ decimal n
unfolding digits_from
reads_on most v [] n h e = append-nil (decimal v) ∙ ap decimal (same_number e)
reads_on most v (c ∷ l) n h e =
    let t = taken most v c l n e in
    let b : 48 + (c - 48) ≡ c = omega (arith, t.low) in
    let d : decimal (more v c) ≡ decimal v ++ (c ∷ []) = next_digit v (c - 48) h (omega (arith, t.high)) ∙ ap (λ (k : ℕ). decimal v ++ (k ∷ [])) b in
    sym (append_assoc (decimal v) (c ∷ []) l) ∙ ap (λ (m : List ℕ). m ++ l) (sym d) ∙ reads_on most (more v c) l n (omega arith) t.rest

-- a first byte that is no 0, and what follows
from_first : (most c : ℕ) (l : List ℕ) (n : ℕ) → (c ≡ 48 → ⊥) → digits_from most 0 (c ∷ l) ≡ Some n → c ∷ l ≡ decimal n
from_first most c l n g e =
    let t = taken most 0 c l n e in
    let b : 48 + (c - 48) ≡ c = omega (arith, t.low) in
    let v : more 0 c ≡ c - 48 = omega arith in
    let d : decimal (more 0 c) ≡ c ∷ [] = ap decimal v ∙ one_digit (c - 48) (omega (arith, t.high)) ∙ ap (λ (k : ℕ). k ∷ []) b in
    ap (λ (m : List ℕ). m ++ l) (sym d) ∙ reads_on most (more 0 c) l n (omega (arith, g, t.low)) t.rest

single : (most c n : ℕ) → digits_from most 0 (c ∷ []) ≡ Some n → c ∷ [] ≡ decimal n
unfolding digits_from
single most c n e =
    let t = taken most 0 c [] n e in
    let b : c ≡ 48 + n = omega (arith, t.low, same_number t.rest) in
    ap (λ (k : ℕ). k ∷ []) b ∙ sym (one_digit n (omega (arith, t.high, same_number t.rest)))

pub up_to_text : (most : ℕ) (l : List ℕ) (n : ℕ) → up_to most l ≡ Some n → (l ≡ decimal n) × (n ≤ most)
unfolding up_to
up_to_text most [] n e = absurd (unread e)
up_to_text most (c ∷ []) n e = (single most c n e, read_small most 0 (c ∷ []) n (omega arith) e)
up_to_text most (c ∷ d ∷ l) n e = go (eqb c 48) refl e
  where
    go : (x : Bool) → eqb c 48 ≡ x → pick x None (digits_from most 0 (c ∷ d ∷ l)) ≡ Some n → (c ∷ d ∷ l ≡ decimal n) × (n ≤ most)
    go true p f = absurd (unread f)
    go false p f = (from_first most c (d ∷ l) n (eqb-false c 48 p) f, read_small most 0 (c ∷ d ∷ l) n (omega arith) f)

-- ---- a text reads
read-append : (most v : ℕ) (s t : List ℕ) (w : ℕ) → digits_from most v s ≡ Some w → digits_from most v (s ++ t) ≡ digits_from most w t
unfolding digits_from
read-append most v [] t w e = ap (λ (k : ℕ). digits_from most k t) (same_number e)
read-append most v (c ∷ s) t w e =
    let k = taken most v c s w e in
    takes most v c (s ++ t) k.low k.high k.small ∙ read-append most (more v c) s t w k.rest

last-read : (most v d : ℕ) → d < 10 → v * 10 + d ≤ most → digits_from most v ((48 + d) ∷ []) ≡ Some (v * 10 + d)
unfolding digits_from
last-read most v d l h =
    let e : more v (48 + d) ≡ v * 10 + d = omega arith in
    takes most v (48 + d) [] (omega arith) (omega arith) (omega arith) ∙ ap Some e

digits_read : (most : ℕ) (n : ℕ) → n ≤ most → digits_from most 0 (decimal n) ≡ Some n
digits_read most = by_digits one step
  where
    one : (n : ℕ) → n < 10 → n ≤ most → digits_from most 0 (decimal n) ≡ Some n
    one n l h =
        let e : 0 * 10 + n ≡ n = omega arith in
        ap (digits_from most 0) (one_digit n l) ∙ last-read most 0 n l (omega arith) ∙ ap Some e

    step : (n : ℕ) → 10 ≤ n → (n / 10 ≤ most → digits_from most 0 (decimal (n / 10)) ≡ Some (n / 10)) → n ≤ most → digits_from most 0 (decimal n) ≡ Some n
    step n l ih h =
        let e : n / 10 * 10 + n % 10 ≡ n = omega arith in
        ap (digits_from most 0) (last_digit n l) ∙ read-append most 0 (decimal (n / 10)) ((48 + n % 10) ∷ []) (n / 10) (ih (omega arith))
        ∙ last-read most (n / 10) (n % 10) (omega arith) (omega arith)
        ∙ ap Some e

first_no_zero : (most : ℕ) (l : List ℕ) → 48 < get_or l 0 0 → up_to most l ≡ digits_from most 0 l
unfolding up_to
first_no_zero most [] h = absurd (omega arith)
first_no_zero most (c ∷ []) h = refl
first_no_zero most (c ∷ d ∷ l) h = simp (ne_eqb c 48 (λ e. omega arith))

pub up_to_read : (most n : ℕ) → n ≤ most → up_to most (decimal n) ≡ Some n
unfolding up_to
up_to_read most n h = ⊎_elim some none (d_lt 0 n)
  where
    some : 0 < n → up_to most (decimal n) ≡ Some n
    some g = first_no_zero most (decimal n) (no_leading-zero n g) ∙ digits_read most n h

    none : (0 < n → ⊥) → up_to most (decimal n) ≡ Some n
    none g =
        let e : decimal n ≡ (48 + n) ∷ [] = one_digit n (omega (arith, g)) in
        rw e (rw e at (digits_read most n h))

-- ---- the fields that are numbers
pub number_text : (l : List ℕ) (n : ℕ) → number_of l ≡ Some n → (l ≡ decimal n) × (n ≤ 4294967295)
unfolding number_of
number_text l n e = up_to_text largest l n e

pub number_read : (l : List ℕ) (n : ℕ) → (l ≡ decimal n) × (n ≤ 4294967295) → number_of l ≡ Some n
unfolding number_of
number_read l n h = ap (up_to largest) h.0 ∙ up_to_read largest n h.1

pub no_number : (l : List ℕ) → number_of l ≡ None → (n : ℕ) → n ≤ 4294967295 → l ≡ decimal n → ⊥
no_number l e n h t = unread (sym e ∙ number_read l n (t, h))
