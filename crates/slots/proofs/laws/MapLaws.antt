-- Laws of the slot map: a slot that is taken, or given back, is as it should be, and every other slot and the head words as they were;
-- and how to see that no bit past the last slot is set. Assumes nothing.
use Rattle.basics.specs.Words.{ℕ, ◌+◌, ◌-◌, ◌/◌, ◌%◌, ◌^◌, ◌<◌, ◌≡◌, refl, sym, ◌∙◌, subst, Bool, true, false, List, length, get_or, set, length-set}
use Rattle.basics.specs.Words.{get_or-set_same, get_or-set_other, eqb, arith, eqb-true, eqb-false}
use lib.Bits.{bit_and, bit_or, bit_xor}
use lib.Pow.{shr_lt}
use Rattle.slots.specs.Meaning.Map.{head, bit, usable, taken, given_back}
use Rattle.slots.specs.Inner.Map.{NonePast}
use Rattle.slots.proofs.laws.BitLaws.{bit_of_zero, bit_not_one, bit_shifted, no_bits, on_same, on_other, off_same, off_other}

-- a slot is usable or not
pub not_usable : (m : List ℕ) (s : ℕ) → (usable m s ≡ 1 → ⊥) → usable m s ≡ 0
not_usable m s g = bit_not_one (get_or m (head + s / 64) 0) (s % 64) g

-- a word changed at one bit, in the map: f is the word's new value
module _ (m : List ℕ) (s : ℕ) (h : head + s / 64 < length m) (f : ℕ → ℕ → ℕ) (other : (a k j : ℕ) → (k ≡ j → ⊥) → bit (f a k) j ≡ bit a j) where
  changed_other : (j : ℕ) → (s ≡ j → ⊥) → (b : Bool) → eqb (head + j / 64) (head + s / 64) ≡ b → usable (set m (head + s / 64) (f (get_or m (head + s / 64) 0) (s % 64))) j ≡ usable m j
  changed_other j n true e =
      let q : head + j / 64 ≡ head + s / 64 = eqb-true (head + j / 64) (head + s / 64) e in
      rw (q, get_or-set_same m (head + s / 64) (f (get_or m (head + s / 64) 0) (s % 64)) 0 h) (other (get_or m (head + s / 64) 0) (s % 64) (j % 64) (λ r. n (omega arith)))
  changed_other j n false e = rw (get_or-set_other m (head + s / 64) (head + j / 64) (f (get_or m (head + s / 64) 0) (s % 64)) 0 (eqb-false (head + j / 64) (head + s / 64) e))

module _ (m : List ℕ) (s : ℕ) (h : head + s / 64 < length m) where
  pub taken-same : usable (taken m s) s ≡ 0
  taken-same = rw (get_or-set_same m (head + s / 64) (bit_xor (get_or m (head + s / 64) 0) (bit_and (get_or m (head + s / 64) 0) (2 ^ (s % 64)))) 0 h) (off_same (get_or m (head + s / 64) 0) (s % 64))

  pub taken_other : (j : ℕ) → (s ≡ j → ⊥) → usable (taken m s) j ≡ usable m j
  taken_other j n = changed_other m s h (λ a k. bit_xor a (bit_and a (2 ^ k))) off_other j n (eqb (head + j / 64) (head + s / 64)) refl

  pub given-back-same : usable (given_back m s) s ≡ 1
  given-back-same = rw (get_or-set_same m (head + s / 64) (bit_or (get_or m (head + s / 64) 0) (2 ^ (s % 64))) 0 h) (on_same (get_or m (head + s / 64) 0) (s % 64))

  pub given-back_other : (j : ℕ) → (s ≡ j → ⊥) → usable (given_back m s) j ≡ usable m j
  given-back_other j n = changed_other m s h (λ a k. bit_or a (2 ^ k)) on_other j n (eqb (head + j / 64) (head + s / 64)) refl

-- the length and the head words stay, in either case
module _ (m : List ℕ) (s : ℕ) where
  pub taken-length : length (taken m s) ≡ length m
  taken-length = simp length-set

  pub given-back-length : length (given_back m s) ≡ length m
  given-back-length = simp length-set

  pub taken-head : (k : ℕ) → k < head → get_or (taken m s) k 0 ≡ get_or m k 0
  taken-head k h = get_or-set_other m (head + s / 64) k _ 0 (λ e. omega arith)

  pub given-back-head : (k : ℕ) → k < head → get_or (given_back m s) k 0 ≡ get_or m k 0
  given-back-head k h = get_or-set_other m (head + s / 64) k _ 0 (λ e. omega arith)

-- ---- only the last word has bits past the last slot: there are none exactly when it is 0 without the bits of its slots
module _ (m : List ℕ) (n : ℕ) (some : n % 64 ≡ 0 → ⊥) where
  pub past-none : get_or m (head + n / 64) 0 / 2 ^ (n % 64) ≡ 0 → NonePast m n
  past-none e s l h =
      let q : s / 64 ≡ n / 64 = omega arith in
      let r : s % 64 ≡ n % 64 + (s % 64 - n % 64) = omega arith in
      rw (q, r, ← bit_shifted (get_or m (head + n / 64) 0) (n % 64) (s % 64 - n % 64), e) (bit_of_zero (s % 64 - n % 64))

  pub past_all : get_or m (head + n / 64) 0 < 2 ^ 64 → NonePast m n → get_or m (head + n / 64) 0 / 2 ^ (n % 64) ≡ 0
  past_all l f =
      let x = get_or m (head + n / 64) 0 in
      let k = n % 64 in
      let t : 64 ≡ 64 - k + k = omega arith in
      no_bits (64 - k) (x / 2 ^ k) (shr_lt (64 - k) k (subst (λ (j : ℕ). x < 2 ^ j) t l)) (λ j h. bit_shifted x k j ∙ sym (at_word j h) ∙ f (n + j) (omega arith) (omega arith))
    where
      at_word : (j : ℕ) → j < 64 - n % 64 → usable m (n + j) ≡ bit (get_or m (head + n / 64) 0) (n % 64 + j)
      at_word j h =
          let q : (n + j) / 64 ≡ n / 64 = omega arith in
          let r : (n + j) % 64 ≡ n % 64 + j = omega arith in
          rw (q, r)
