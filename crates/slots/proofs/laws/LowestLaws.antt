-- The lowest usable slot or none, exactly: what it is told by its definition, and that these facts determine it. Assumes nothing.
use Rattle.basics.specs.Words.{ℕ, zero, suc, ◌+◌, ◌*◌, ◌/◌, ◌%◌, ◌^◌, ◌≤◌, ◌<◌, ◌≡◌, refl, ap, subst, Bool, true, false, List, ⊎_elim, get_or, eqb, ltb, le_refl}
use Rattle.basics.specs.Words.{eq-or-lt_of_le, arith, eqb-true, eqb-false, ltb-true, ltb-false}
use lib.Arith.{digits_mod, digits_div}
use lib.Count.{count_trailing_zeros}
use Rattle.basics.specs.Meaning.Refusals.{pick}
use Rattle.std.specs.Prelude.{Option, None, Some}
use Rattle.slots.specs.Meaning.Map.{head, words_for, usable, lowest_from, lowest_usable}
use Rattle.slots.specs.Inner.Map.{NonePast}
use Rattle.slots.proofs.laws.BitLaws.{bit_of_zero, trailing_low, trailing_set}
use Rattle.slots.proofs.laws.MapLaws.{not_usable}

-- u is the lowest usable slot of n, or there is none
abbrev pub IsLowest : List ℕ → ℕ → Option ℕ → Type 0
IsLowest m n (Some s) = (s < n) × (usable m s ≡ 1) × ((j : ℕ) → j < s → usable m j ≡ 0)
IsLowest m n None = (j : ℕ) → j < n → usable m j ≡ 0

-- the same of the k slots from s on
abbrev FromOn : List ℕ → ℕ → ℕ → Option ℕ → Type 0
FromOn m s k (Some t) = (s ≤ t) × (t < s + k) × (usable m t ≡ 1) × ((j : ℕ) → s ≤ j → j < t → usable m j ≡ 0)
FromOn m s k None = (j : ℕ) → s ≤ j → j < s + k → usable m j ≡ 0

module _ (m : List ℕ) where
  -- a slot that is not usable, and those behind it up to a bound
  one_more : (s t : ℕ) → usable m s ≡ 0 → ((j : ℕ) → suc s ≤ j → j < t → usable m j ≡ 0) → (j : ℕ) → s ≤ j → j < t → usable m j ≡ 0
  one_more s t e f j a b = ⊎_elim (λ q. subst (λ (i : ℕ). usable m i ≡ 0) q e) (λ l. f j l b) (eq-or-lt_of_le a)

  step : (s k : ℕ) (b : Bool) → eqb (usable m s) 1 ≡ b → (u : Option ℕ) → FromOn m (suc s) k u → FromOn m s (suc k) (pick b (Some s) u)
  step s k true e u h = (le_refl s, omega arith, eqb-true (usable m s) 1 e, λ j a b. absurd (omega arith))
  step s k false e (Some t) h = (omega (arith, h.0), omega (arith, h.1), h.2, one_more s t (not_usable m s (eqb-false (usable m s) 1 e)) h.3)
  step s k false e None h = one_more s (s + suc k) (not_usable m s (eqb-false (usable m s) 1 e)) (λ j a b. h j a (omega arith))

  from_on : (k s : ℕ) → FromOn m s k (lowest_from m s k)
  unfolding lowest_from
  from_on zero s = λ j a b. absurd (omega arith)
  from_on (suc k) s = step s k (eqb (usable m s) 1) refl (lowest_from m (suc s) k) (from_on k (suc s))

  from_first : (n : ℕ) (u : Option ℕ) → FromOn m 0 n u → IsLowest m n u
  from_first n (Some s) h = (omega (arith, h.1), h.2, λ j l. h.3 j (omega arith) l)
  from_first n None h = λ j l. h j (omega arith) (omega arith)

  pub lowest_is : (n : ℕ) → IsLowest m n (lowest_usable m n)
  unfolding lowest_usable
  lowest_is n = from_first n (lowest_from m 0 n) (from_on n 0)

  -- ---- no other is the lowest
  none_below : (s t : ℕ) → usable m s ≡ 1 → ((j : ℕ) → j < t → usable m j ≡ 0) → t ≤ s
  none_below s t e f = go (ltb s t) refl
    where
      go : (b : Bool) → ltb s t ≡ b → t ≤ s
      go true q = absurd (omega (arith, f s (ltb-true s t q)))
      go false q = ltb-false s t q

  two_lowest : (n : ℕ) (u v : Option ℕ) → IsLowest m n u → IsLowest m n v → u ≡ v
  two_lowest n (Some s) (Some t) g h = ap Some (omega (arith, none_below s t g.1 h.2, none_below t s h.1 g.2))
  two_lowest n (Some s) None g h = absurd (omega (arith, g.1, h s g.0))
  two_lowest n None (Some t) g h = absurd (omega (arith, h.1, g t h.0))
  two_lowest n None None g h = refl

  pub lowest_only : (n : ℕ) (u : Option ℕ) → IsLowest m n u → lowest_usable m n ≡ u
  lowest_only n u h = two_lowest n (lowest_usable m n) u (lowest_is n) h

  -- ---- case by case
  pub lowest_at : (n s : ℕ) → lowest_usable m n ≡ Some s → (s < n) × (usable m s ≡ 1) × ((j : ℕ) → j < s → usable m j ≡ 0)
  lowest_at n s e = subst (IsLowest m n) e (lowest_is n)

  pub lowest_none : (n : ℕ) → lowest_usable m n ≡ None → (j : ℕ) → j < n → usable m j ≡ 0
  lowest_none n e = subst (IsLowest m n) e (lowest_is n)

-- ---- the lowest slot of a map that has no bit past the last slot, at its first word that is not 0
module _ (m : List ℕ) (n w : ℕ) (past : NonePast m n) (low : (v : ℕ) → v < w → get_or m (head + v) 0 ≡ 0) where
  low_word : (j : ℕ) → j / 64 < w → usable m j ≡ 0
  low_word j h = rw (low (j / 64) h) (bit_of_zero (j % 64))

  pub lowest_past_words : words_for n ≤ w → lowest_usable m n ≡ None
  lowest_past_words h = lowest_only m n None (λ j l. low_word j (omega arith))

  pub lowest_in_word : (t : ℕ) → w < words_for n → 0 < get_or m (head + w) 0 → get_or m (head + w) 0 < 2 ^ 64 → t ≡ count_trailing_zeros 64 (get_or m (head + w) 0) → lowest_usable m n ≡ Some (w * 64 + t)
  lowest_in_word t h p l e =
      let x = get_or m (head + w) 0 in
      let g = trailing_set 64 x p l in
      let small : t < 64 = rw e g.1 in
      let q : (w * 64 + t) / 64 ≡ w = digits_div w small in
      let r : (w * 64 + t) % 64 ≡ t = digits_mod w small in
      let set : usable m (w * 64 + t) ≡ 1 = rw (q, r, e) g.0 in
      lowest_only m n (Some (w * 64 + t))
      (inside (w * 64 + t) (omega arith) set, set, λ j a. let le : j / 64 ≤ w = omega arith in ⊎_elim (λ y. rw y (trailing_low 64 x (j % 64) (rw (← e) (omega arith)))) (λ y. low_word j y) (eq-or-lt_of_le le))
    where
      inside : (s : ℕ) → s < words_for n * 64 → usable m s ≡ 1 → s < n
      inside s a b = go (ltb s n) refl
        where
          go : (c : Bool) → ltb s n ≡ c → s < n
          go true c = ltb-true s n c
          go false c = absurd (omega (arith, past s a (ltb-false s n c)))
