-- The map of a new grid: the words of n slots have a bit for each slot, and none past the last. Assumes nothing.
use Rattle.basics.specs.Words.{ℕ, zero, suc, ◌+◌, ◌-◌, ◌*◌, ◌/◌, ◌%◌, ◌^◌, ◌≤◌, ◌<◌, ◌≡◌, refl, ◌∙◌, ap, Bool, true, false, ◌∷◌, length, get_or}
use Rattle.basics.specs.Words.{get_or-eq_default, leb, div-eq_of_lt, pow-succ', not-suc-le-zero, arith, leb-true, leb-false}
use lib.Pow.{pow_pos, pow_mono, ones_lt, ones_split, high}
use Rattle.basics.specs.Meaning.Refusals.{pick}
use Rattle.slots.specs.Meaning.Map.{words_for, bit, usable}
use Rattle.slots.proofs.laws.BitLaws.{bit_of_zero}
use Rattle.blank.specs.Meaning.Blank.{free_word, free_words}

-- ---- 2 ^ k - 1 has the bits below k
odd_ones : (m : ℕ) → (2 ^ suc m - 1) % 2 ≡ 1
odd_ones m = rw (pow-succ' 2 m) (omega (arith, pow_pos m))

pub ones_low : (k j : ℕ) → j < k → bit (2 ^ k - 1) j ≡ 1
ones_low k j h =
    let e : k ≡ suc (k - suc j) + j = omega arith in
    rw (e, ones_split (suc (k - suc j)) j, high (2 ^ suc (k - suc j) - 1) j (ones_lt j)) (odd_ones (k - suc j))

pub ones_high : (k j : ℕ) → k ≤ j → bit (2 ^ k - 1) j ≡ 0
ones_high k j h =
    rw (div-eq_of_lt {n = 2 ^ k - 1} {m = 2 ^ j} (omega (arith, ones_lt k, pow_mono {i = k} {j = j} h)))

-- ---- a word of which n slots are left
pub free-low : (n j : ℕ) → j < 64 → j < n → bit (free_word n) j ≡ 1
free-low n j w h = go (leb 64 n)
  where
    go : (b : Bool) → bit (pick b (2 ^ 64 - 1) (2 ^ n - 1)) j ≡ 1
    go true = ones_low 64 j w
    go false = ones_low n j h

pub free-high : (n j : ℕ) → j < 64 → n ≤ j → bit (free_word n) j ≡ 0
free-high n j w h = go (leb 64 n) refl
  where
    go : (b : Bool) → leb 64 n ≡ b → bit (pick b (2 ^ 64 - 1) (2 ^ n - 1)) j ≡ 0
    go true e = absurd (omega (arith, leb-true 64 n e))
    go false e = ones_high n j h

-- ---- the words
pub free-length : (k n : ℕ) → length (free_words k n) ≡ k
free-length zero n = refl
free-length (suc k) n = ap suc (free-length k (n - 64))

pub free_at : (k n w : ℕ) → w < k → get_or (free_words k n) w 0 ≡ free_word (n - 64 * w)
free_at zero n w h = absurd (not-suc-le-zero h)
free_at (suc k) n zero h =
    let e : n ≡ n - 64 * 0 = omega arith in
    ap free_word e
free_at (suc k) n (suc w) h =
    let e : n - 64 - 64 * w ≡ n - 64 * suc w = omega arith in
    free_at k (n - 64) w (omega arith) ∙ ap free_word e

-- ---- the map, whatever its head words are
module _ (a b c n : ℕ) where
  at_word : (s : ℕ) → usable (a ∷ b ∷ c ∷ free_words (words_for n) n) s ≡ bit (get_or (free_words (words_for n) n) (s / 64) 0) (s % 64)
  at_word s =
      let e : 3 + s / 64 ≡ suc (suc (suc (s / 64))) = omega arith in
      ap (λ (i : ℕ). bit (get_or (a ∷ b ∷ c ∷ free_words (words_for n) n) i 0) (s % 64)) e

  pub free-usable : (s : ℕ) → s < n → usable (a ∷ b ∷ c ∷ free_words (words_for n) n) s ≡ 1
  free-usable s h =
      at_word s ∙ rw (free_at (words_for n) n (s / 64) (omega arith)) (free-low (n - 64 * (s / 64)) (s % 64) (omega arith) (omega arith))

  in_words : (s : ℕ) → n ≤ s → s / 64 < words_for n → usable (a ∷ b ∷ c ∷ free_words (words_for n) n) s ≡ 0
  in_words s h l =
      at_word s ∙ rw (free_at (words_for n) n (s / 64) l) (free-high (n - 64 * (s / 64)) (s % 64) (omega arith) (omega arith))

  pub free-past : (s : ℕ) → n ≤ s → usable (a ∷ b ∷ c ∷ free_words (words_for n) n) s ≡ 0
  free-past s h = go (leb (words_for n) (s / 64)) refl
    where
      go : (t : Bool) → leb (words_for n) (s / 64) ≡ t → usable (a ∷ b ∷ c ∷ free_words (words_for n) n) s ≡ 0
      go true e =
          let l : length (free_words (words_for n) n) ≤ s / 64 = rw free-length (leb-true (words_for n) (s / 64) e) in
          at_word s ∙ rw (get_or-eq_default (free_words (words_for n) n) 0 l) (bit_of_zero (s % 64))
      go false e = in_words s h (leb-false (words_for n) (s / 64) e)
