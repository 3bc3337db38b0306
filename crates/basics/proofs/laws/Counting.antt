-- How many numbers below n pass a test; and that they are as many as the places of a list that names each of them once. Assumes nothing.
-- Here: the laws.
use Rattle.basics.specs.Words.{ℕ, zero, suc, ◌+◌, ◌<◌, ◌≤◌, ◌≡◌, refl, sym, ap, ◌∙◌, Bool, true, false, ⊎_elim, eqb, arith, eq-eqb, ne_eqb}
use Rattle.basics.specs.Meaning.Refusals.{pick}
use Rattle.basics.proofs.laws.Says.{apart, d_eq}
use Rattle.basics.specs.Inner.Counting.{one, count_below}

-- the test that a fails, besides those that failed before
abbrev pub without : (ℕ → Bool) → ℕ → ℕ → Bool
without test a s = pick (eqb s a) false (test s)

without_here : (test : ℕ → Bool) (a : ℕ) → without test a a ≡ false
without_here test a = ap (λ (b : Bool). pick b false (test a)) (eq-eqb a a refl)

without_there : (test : ℕ → Bool) (a s : ℕ) → (s ≡ a → ⊥) → without test a s ≡ test s
without_there test a s h = ap (λ (b : Bool). pick b false (test s)) (ne_eqb s a h)

module _ (test : ℕ → Bool) (a : ℕ) where
  same-below : (n : ℕ) → n ≤ a → count_below (without test a) n ≡ count_below test n
  unfolding count_below
  same-below zero h = refl
  same-below (suc n) h = λ z. same-below n (omega arith) z + one (without_there test a n (λ e. omega arith) z)

  pub one_out : (n : ℕ) → a < n → test a ≡ true → count_below test n ≡ suc (count_below (without test a) n)
  unfolding count_below
  one_out zero h t = absurd (omega arith)
  one_out (suc n) h t =
      ⊎_elim
      (λ e.
      let here : without test a n ≡ false = ap (without test a) e ∙ without_here test a in
      let there : test n ≡ true = ap test e ∙ t in
      omega (arith, same-below n (omega arith), ap one here, ap one there))
      (λ d. omega (arith, one_out n (omega (arith, d)) t, ap one (without_there test a n d)))
      (d_eq n a)

none_below : (test : ℕ → Bool) (n : ℕ) → ((s : ℕ) → s < n → test s ≡ true → ⊥) → count_below test n ≡ 0
unfolding count_below
none_below test zero h = refl
none_below test (suc n) h = omega (arith, none_below test n (λ s l. h s (omega arith)), no_one (test n) (h n (omega arith)))
  where
    no_one : (b : Bool) → (b ≡ true → ⊥) → one b ≡ 0
    no_one true g = absurd (g refl)
    no_one false g = refl

-- the places below `used` name numbers below n that pass, no two the same, and each that passes is named
pub record Names (test : ℕ → Bool) (n used : ℕ) (name : ℕ → ℕ) : Type 0 where
  pub inside : (j : ℕ) → j < used → name j < n
  pub passes : (j : ℕ) → j < used → test (name j) ≡ true
  pub once : (i j : ℕ) → j < used → i < j → name i ≡ name j → ⊥
  pub every : (s : ℕ) → s < n → test s ≡ true → (j : ℕ) × (j < used) × (name j ≡ s)

module _ (test : ℕ → Bool) (n used : ℕ) (name : ℕ → ℕ) (h : Names test n (suc used) name) where
  left_out : (s : ℕ) → without test (name used) s ≡ true → (s ≡ name used → ⊥) × (test s ≡ true)
  left_out s e = ⊎_elim (λ q. absurd (apart (sym (ap (without test (name used)) q ∙ without_here test (name used)) ∙ e))) (λ d. (d, sym (without_there test (name used) s d) ∙ e)) (d_eq s (name used))

  fewer : Names (without test (name used)) n used name
  fewer =
      record {
        inside = λ j l. h.inside j (omega arith);
        passes = λ j l. without_there test (name used) (name j) (λ e. h.once j used (omega arith) l e) ∙ h.passes j (omega arith);
        once = λ i j l m. h.once i j (omega arith) m;
        every = λ s l e.
            let o = left_out s e in
            let j = h.every s l o.1 in
            let d : j.0 ≡ used → ⊥ = λ q. o.0 (sym j.2 ∙ ap name q) in
            (j.0, omega (arith, j.1, d), j.2);
      }

pub named_count : (used : ℕ) (test : ℕ → Bool) (n : ℕ) (name : ℕ → ℕ) → Names test n used name → count_below test n ≡ used
named_count zero test n name h = none_below test n (λ s l e. omega (arith, (h.every s l e).1))
named_count (suc used) test n name h = one_out test (name used) n (h.inside used (omega arith)) (h.passes used (omega arith)) ∙ ap suc (named_count used (without test (name used)) n name (fewer test n used name h))
