-- Whether some place below a bound passes a test. Assumes nothing.
use Rattle.basics.specs.Words.{ℕ, zero, suc, ◌<◌, ◌≡◌, refl, sym, ap, ◌∙◌, Bool, true, false, ◌||◌, ⊎_elim, arith}
use Rattle.basics.specs.Meaning.Says.{Says}
use Rattle.basics.proofs.laws.Says.{apart, or_true, d_lt}
use Rattle.storage.proofs.laws.FilterLaws.{by_test}
use Rattle.encoder_points.specs.Inner.Marks.{some_below}

or_swap : (a b c d : Bool) → ((a || b) || (c || d)) ≡ ((a || c) || (b || d))
or_swap true b c d = refl
or_swap false true true d = refl
or_swap false true false d = refl
or_swap false false c d = refl

module _ (test : ℕ → Bool) where
  pub none_below : (n : ℕ) → ((j : ℕ) → j < n → test j ≡ false) → some_below test n ≡ false
  unfolding some_below
  none_below zero h = refl
  none_below (suc n) h = rw (none_below n (λ j l. h j (omega arith)), h n (omega arith))

  module _ (other : ℕ → Bool) where
    pub same-below : (n : ℕ) → ((j : ℕ) → j < n → test j ≡ other j) → some_below test n ≡ some_below other n
    unfolding some_below
    same-below zero h = refl
    same-below (suc n) h = rw (same-below n (λ j l. h j (omega arith)), h n (omega arith))

    pub either_below : (n : ℕ) → (some_below test n || some_below other n) ≡ some_below (λ j. test j || other j) n
    unfolding some_below
    either_below zero = refl
    either_below (suc n) = or_swap (some_below test n) (test n) (some_below other n) (other n) ∙ ap (λ b. b || (test n || other n)) (either_below n)

  below_at : (n j : ℕ) → j < n → test j ≡ true → some_below test n ≡ true
  unfolding some_below
  below_at zero j l e = absurd (omega arith)
  below_at (suc n) j l e =
      ⊎_elim (λ m. rw (below_at n j m e)) (λ m. let q : j ≡ n = omega arith in or_true (some_below test n) (ap test (sym q) ∙ e)) (d_lt j n)

  at_below : (n : ℕ) → some_below test n ≡ true → (j : ℕ) × (j < n) × (test j ≡ true)
  unfolding some_below
  at_below zero e = absurd (apart e)
  at_below (suc n) e = by_test (some_below test n) (λ q. let m = at_below n q in (m.0, omega (arith, m.1), m.2)) (λ q. (n, omega arith, rw q at e))

  pub below_says : (n : ℕ) → Says (some_below test n) ((j : ℕ) × (j < n) × (test j ≡ true))
  below_says n = record { yes = at_below n; no = λ m. below_at n m.0 m.1 m.2 }
