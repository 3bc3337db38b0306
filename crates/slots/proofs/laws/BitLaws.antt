-- Laws of the bits of a number: under `bit_or`, `bit_and` and `bit_xor`, of a power of two, and below the lowest bit that is set. Assumes nothing.
use Rattle.basics.specs.Words.{ℕ, zero, suc, ◌+◌, ◌/◌, ◌%◌, ◌^◌, ◌<◌, min, max, zero-le, suc-le-suc, ◌≡◌, refl, ◌∙◌, ap, not-suc-le-zero, le_of_suc-le-suc}
use Rattle.basics.specs.Words.{div-one, div_self, div-div-eq-div-mul, pow-succ', zero-div, zero-mod, mul-div_cancel_left, max-le, max-zero, min-zero}
use Rattle.basics.specs.Words.{min-le_left, arith}
use lib.Arith.{digits_mod}
use lib.Pow.{pow_pos, shr-shr}
use lib.Bits.{bit_and, bit_or, bit_xor, differ, and_step, or_step, xor_step, and_shr, or_shr, xor_shr}
use lib.Count.{count_trailing_zeros, under}
use Rattle.slots.specs.Meaning.Map.{bit}

bit-zero : (n : ℕ) → bit n 0 ≡ n % 2
bit-zero n = ap (λ (m : ℕ). m % 2) (div-one n)

bit-suc : (n j : ℕ) → bit n (suc j) ≡ bit (n / 2) j
bit-suc n j = rw (pow-succ' 2 j, ← div-div-eq-div-mul)

pub bit_of_zero : (j : ℕ) → bit 0 j ≡ 0
bit_of_zero j = rw zero-div (zero-mod 2)

-- a bit is 1 or 0
pub bit_not_one : (n j : ℕ) → (bit n j ≡ 1 → ⊥) → bit n j ≡ 0
bit_not_one n j g = omega arith

-- the bits of a number that was shifted down
pub bit_shifted : (n b j : ℕ) → bit (n / 2 ^ b) j ≡ bit n (b + j)
bit_shifted n b j = rw (shr-shr n b j)

-- a number of k bits, none of which is set, is 0
pub no_bits : (k n : ℕ) → n < 2 ^ k → ((j : ℕ) → j < k → bit n j ≡ 0) → n ≡ 0
no_bits zero n l f = omega arith
no_bits (suc k) n l f =
    let e : n / 2 ≡ 0 = no_bits k (n / 2) (omega (arith, rw (pow-succ' 2 k) at l)) (λ j h. rw (← bit-suc n j) (f (suc j) (suc-le-suc h))) in
    omega (arith, rw bit-zero at (f 0 (suc-le-suc zero-le)))

-- ---- `bit_or`, `bit_and`, `bit_xor`, bit by bit
bit_or_lem : (a b j : ℕ) → bit (bit_or a b) j ≡ max (bit a j) (bit b j)
bit_or_lem a b j =
    rw (or_shr a b j, or_step (a / 2 ^ j) (b / 2 ^ j))
    (digits_mod (bit_or (a / 2 ^ j / 2) (b / 2 ^ j / 2)) (omega (arith, max-le {a = bit a j} {b = bit b j} {k = 1} (omega arith) (omega arith))))

bit_and_lem : (a b j : ℕ) → bit (bit_and a b) j ≡ min (bit a j) (bit b j)
bit_and_lem a b j =
    rw (and_shr a b j, and_step (a / 2 ^ j) (b / 2 ^ j))
    (digits_mod (bit_and (a / 2 ^ j / 2) (b / 2 ^ j / 2)) (omega (arith, min-le_left (bit a j) (bit b j))))

differ_small : (a b : ℕ) → a < 2 → b < 2 → differ a b < 2
differ_small zero b p q = q
differ_small (suc a) zero p q = p
differ_small (suc a) (suc b) p q = differ_small a b (omega arith) (omega arith)

bit_xor_lem : (a b j : ℕ) → bit (bit_xor a b) j ≡ differ (bit a j) (bit b j)
bit_xor_lem a b j =
    rw (xor_shr a b j, xor_step (a / 2 ^ j) (b / 2 ^ j))
    (digits_mod (bit_xor (a / 2 ^ j / 2) (b / 2 ^ j / 2)) (differ_small (bit a j) (bit b j) (omega arith) (omega arith)))

-- ---- a power of two has one bit
half_pow : (k : ℕ) → 2 ^ suc k / 2 ≡ 2 ^ k
half_pow k = rw (pow-succ' 2 k) (mul-div_cancel_left (2 ^ k) (omega arith))

bit-pow-same : (k : ℕ) → bit (2 ^ k) k ≡ 1
bit-pow-same k = rw (div_self (pow_pos k)) refl

bit-pow_other : (k j : ℕ) → (k ≡ j → ⊥) → bit (2 ^ k) j ≡ 0
bit-pow_other zero zero h = absurd (h refl)
bit-pow_other zero (suc j) h = bit-suc 1 j ∙ bit_of_zero j
bit-pow_other (suc k) zero h = bit-zero (2 ^ suc k) ∙ rw (pow-succ' 2 k) (omega arith)
bit-pow_other (suc k) (suc j) h = bit-suc (2 ^ suc k) j ∙ rw (half_pow k) (bit-pow_other k j (λ e. h (ap suc e)))

-- ---- bit k set, or taken away: that bit is as it should be, and every other as it was
pub on_same : (a k : ℕ) → bit (bit_or a (2 ^ k)) k ≡ 1
on_same a k = rw (bit_or_lem a (2 ^ k) k, bit-pow-same k) (omega arith)

pub on_other : (a k j : ℕ) → (k ≡ j → ⊥) → bit (bit_or a (2 ^ k)) j ≡ bit a j
on_other a k j h = rw (bit_or_lem a (2 ^ k) j, bit-pow_other k j h) (max-zero (bit a j))

differ_self : (a : ℕ) → differ a a ≡ 0
differ_self zero = refl
differ_self (suc a) = differ_self a

differ_zero : (a : ℕ) → differ a 0 ≡ a
differ_zero zero = refl
differ_zero (suc a) = refl

min-one : (a : ℕ) → a < 2 → min a 1 ≡ a
min-one a h = omega arith

pub off_same : (a k : ℕ) → bit (bit_xor a (bit_and a (2 ^ k))) k ≡ 0
off_same a k = rw (bit_xor_lem a (bit_and a (2 ^ k)) k, bit_and_lem a (2 ^ k) k, bit-pow-same k, min-one (bit a k) (omega arith)) (differ_self (bit a k))

pub off_other : (a k j : ℕ) → (k ≡ j → ⊥) → bit (bit_xor a (bit_and a (2 ^ k))) j ≡ bit a j
off_other a k j h = rw (bit_xor_lem a (bit_and a (2 ^ k)) j, bit_and_lem a (2 ^ k) j, bit-pow_other k j h, min-zero (bit a j)) (differ_zero (bit a j))

-- ---- the trailing zeros are the bits below the lowest that is set
step_low : (n t j d : ℕ) → n % 2 ≡ d → ((i : ℕ) → i < t → bit (n / 2) i ≡ 0) → j < under d t → bit n j ≡ 0
step_low n t zero zero e f h = bit-zero n ∙ e
step_low n t (suc j) zero e f h = bit-suc n j ∙ f j (le_of_suc-le-suc h)
step_low n t j (suc d) e f h = absurd (not-suc-le-zero h)

pub trailing_low : (k n j : ℕ) → j < count_trailing_zeros k n → bit n j ≡ 0
unfolding count_trailing_zeros
trailing_low zero n j h = absurd (not-suc-le-zero h)
trailing_low (suc k) n j h = step_low n (count_trailing_zeros k (n / 2)) j (n % 2) refl (trailing_low k (n / 2)) h

step_set : (k n t d : ℕ) → n % 2 ≡ d → (0 < n / 2 → (bit (n / 2) t ≡ 1) × (t < k)) → 0 < n → (bit n (under d t) ≡ 1) × (under d t < suc k)
step_set k n t zero e f h =
    let g = f (omega arith) in
    (bit-suc n t ∙ g.0, suc-le-suc g.1)
step_set k n t (suc d) e f h = (bit-zero n ∙ omega arith, suc-le-suc zero-le)

pub trailing_set : (k n : ℕ) → 0 < n → n < 2 ^ k → (bit n (count_trailing_zeros k n) ≡ 1) × (count_trailing_zeros k n < k)
unfolding count_trailing_zeros
trailing_set zero n h l = absurd (omega arith)
trailing_set (suc k) n h l =
    step_set k n (count_trailing_zeros k (n / 2)) (n % 2) refl (λ q. trailing_set k (n / 2) q (omega (arith, rw (pow-succ' 2 k) at l))) h
