-- Where the marked slots and those that the map has are as many as the slots, and none is both, each is one of them. Assumes nothing.
use Rattle.basics.specs.Words.{ℕ, zero, suc, ◌+◌, ◌<◌, ◌≤◌, ◌≡◌, refl, sym, ap, ◌∙◌, Bool, true, false, List, ◌⊎◌, inl, inr, ⊎_elim, length, get_or, eqb, arith}
use Rattle.basics.specs.Words.{eq-eqb, eqb-true, ne_eqb}
use Rattle.basics.proofs.laws.Says.{d_eq}
use Rattle.basics.specs.Meaning.Refusals.{pick}
use Rattle.basics.specs.Inner.Counting.{one, count_below}
use Rattle.slots.specs.Meaning.Map.{usable}
use Rattle.slots.specs.Inner.Map.{usable_below}
use Rattle.slots.proofs.laws.MapLaws.{not_usable}
use Rattle.slots.specs.Meaning.Slot.{free, phase_at}
use Rattle.point_tables.specs.Inner.Check.{SlotOk, EachOk, FreeAt, Listed}

module _ (f g : ℕ → Bool) where
  at_most : (a b : Bool) → (a ≡ true → b ≡ true → ⊥) → one a + one b ≤ 1
  at_most true true h = absurd (h refl refl)
  at_most true false h = omega arith
  at_most false true h = omega arith
  at_most false false h = omega arith

  sum-most : (n : ℕ) → ((s : ℕ) → s < n → f s ≡ true → g s ≡ true → ⊥) → count_below f n + count_below g n ≤ n
  unfolding count_below
  sum-most zero h = omega arith
  sum-most (suc n) h = omega (arith, sum-most n (λ s l. h s (omega arith)), at_most (f n) (g n) (h n (omega arith)))

  one_of : (a b : Bool) → 1 ≤ one a + one b → (a ≡ true) ⊎ (b ≡ true)
  one_of true b h = inl refl
  one_of false true h = inr refl
  one_of false false h = absurd (omega arith)

  pub cover : (n : ℕ) → ((s : ℕ) → s < n → f s ≡ true → g s ≡ true → ⊥) → n ≤ count_below f n + count_below g n → (s : ℕ) → s < n → (f s ≡ true) ⊎ (g s ≡ true)
  unfolding count_below
  cover zero h e s l = absurd (omega arith)
  cover (suc n) h e s l =
      let m = sum-most n (λ k i. h k (omega arith)) in
      let o = at_most (f n) (g n) (h n (omega arith)) in
      ⊎_elim
      (λ q. rw q (one_of (f n) (g n) (omega (arith, m, e))))
      (λ q. cover n (λ k i. h k (omega arith)) (omega (arith, m, o, e)) s (omega (arith, q)))
      (d_eq s n)

-- ---- the slots that the map has, counted by a test
abbrev has : List ℕ → ℕ → Bool
has m s = eqb (usable m s) 1

has_one : (m : List ℕ) (s : ℕ) → one (has m s) ≡ usable m s
has_one m s = ⊎_elim (λ q. ap one (eq-eqb (usable m s) 1 q) ∙ sym q) (λ q. ap one (ne_eqb (usable m s) 1 q) ∙ sym (not_usable m s q)) (d_eq (usable m s) 1)

has_count : (m : List ℕ) (n : ℕ) → count_below (has m) n ≡ usable_below m n
unfolding count_below usable_below
has_count m zero = refl
has_count m (suc n) = λ z. has_count m n z + has_one m n z

module _ (nums : List (List ℕ)) (map : List ℕ) (marks : List Bool) (used : ℕ) (l : Listed nums marks used) where
  -- ---- enough: the slots that the map has are free
  pub each_of : used + usable_below map (length nums) ≡ length nums → ((s : ℕ) → s < length nums → FreeAt nums map s) → EachOk nums map marks
  each_of e h s i = ⊎_elim listed mapped (cover (λ k. get_or marks k false) (has map) (length nums) apart-here (omega (arith, e, l.count, has_count map (length nums))) s i)
    where
      apart-here : (k : ℕ) → k < length nums → get_or marks k false ≡ true → has map k ≡ true → ⊥
      apart-here k g a b = omega (arith, l.occupied k a, (h k g (eqb-true (usable map k) 1 b)).1)

      mapped : has map s ≡ true → SlotOk nums map s (get_or marks s false)
      mapped t =
          let u = eqb-true (usable map s) 1 t in
          let w = h s i u in
          record {
            slot = record { versioned = w.0; phased = omega (arith, w.1); spent = λ q. absurd (omega (arith, w.1)); in_map = u ∙ sym (ap (λ (b : Bool). pick b 1 0) (eq-eqb (phase_at nums s) free w.1)) };
            if_live = λ q. absurd (omega (arith, w.1));
          }

      listed : get_or marks s false ≡ true → SlotOk nums map s (get_or marks s false)
      listed t =
          let p = l.occupied s t in
          let u = not_usable map s (λ u. omega (arith, (h s i u).1)) in
          record {
            slot = record { versioned = l.versioned s t; phased = omega arith; spent = λ q. absurd (omega arith); in_map = u ∙ sym (ap (λ (b : Bool). pick b 1 0) (ne_eqb (phase_at nums s) free (λ q. omega arith))) };
            if_live = λ q. t;
          }

-- ---- and no more than is asked
pub each_free : (nums : List (List ℕ)) (map : List ℕ) (marks : List Bool) → EachOk nums map marks → (s : ℕ) → s < length nums → FreeAt nums map s
each_free nums map marks h s i u =
    let w = (h s i).slot in
    (w.versioned, ⊎_elim (λ q. q) (λ q. absurd (omega (arith, u, w.in_map, ap (λ (b : Bool). pick {A = ℕ} b 1 0) (ne_eqb (phase_at nums s) free q)))) (d_eq (phase_at nums s) free))
