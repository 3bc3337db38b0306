-- Slots may be given back to the map in any order. Assumes nothing.
use Rattle.basics.specs.Words.{ℕ, ◌+◌, ◌/◌, ◌%◌, ◌^◌, ◌<◌, ◌≤◌, max, ◌≡◌, sym, ◌∙◌, List, ⊎_elim, length, get_or, set, get_or-set_same, get_or-set_other, set_out}
use Rattle.basics.specs.Words.{set-set, set_comm, max-le, arith}
use lib.Arith.{bin_ind}
use lib.Bits.{bit_or, or_step, or_comm}
use Rattle.basics.proofs.laws.Says.{d_eq, d_lt}
use Rattle.slots.specs.Meaning.Map.{head, given_back}

-- ---- `bit_or`, by halves
or_low : (a b : ℕ) → max (a % 2) (b % 2) < 2
or_low a b = omega (arith, max-le {a = a % 2} {b = b % 2} {k = 1} (omega arith) (omega arith))

or_half : (a b : ℕ) → bit_or a b / 2 ≡ bit_or (a / 2) (b / 2)
or_half a b = omega (arith, or_step a b, or_low a b)

or_odd : (a b : ℕ) → bit_or a b % 2 ≡ max (a % 2) (b % 2)
or_odd a b = omega (arith, or_step a b, or_low a b)

pub or_swap : (a b c : ℕ) → bit_or (bit_or a b) c ≡ bit_or (bit_or a c) b
or_swap a =
    bin_ind (λ (n : ℕ). (b c : ℕ) → bit_or (bit_or n b) c ≡ bit_or (bit_or n c) b) or_comm
    (λ n ih b c.
    or_step (bit_or n b) c
    ∙ rw (or_half n b, or_odd n b, ih (b / 2) (c / 2), ← or_half n c)
    (omega (arith, or_step (bit_or n c) b, or_odd n c)))
    a

-- ---- two changes of a list, each of what stands at its place
module _ {A : Type 0} (l : List A) (d : A) (f g : A → A) (swap : (x : A) → g (f x) ≡ f (g x)) where
  -- at one place
  both-here : (i : ℕ) → set (set l i (f (get_or l i d))) i (g (get_or (set l i (f (get_or l i d))) i d)) ≡ set (set l i (g (get_or l i d))) i (f (get_or (set l i (g (get_or l i d))) i d))
  both-here i =
      ⊎_elim
      (λ h. rw (get_or-set_same l i (f (get_or l i d)) d h, get_or-set_same l i (g (get_or l i d)) d h, set-set l i (f (get_or l i d)) (g (f (get_or l i d))), set-set l i (g (get_or l i d)) (f (g (get_or l i d))), swap (get_or l i d)))
      (λ h.
      let o : length l ≤ i = omega (arith, h) in
      rw (set_out l i (f (get_or l i d)) o, set_out l i (g (get_or l i d)) o, set_out l i (f (get_or l i d)) o))
      (d_lt i (length l))

  pub both_ways : (i j : ℕ) → set (set l i (f (get_or l i d))) j (g (get_or (set l i (f (get_or l i d))) j d)) ≡ set (set l j (g (get_or l j d))) i (f (get_or (set l j (g (get_or l j d))) i d))
  both_ways i j =
      ⊎_elim
      (λ e. rw e (both-here j))
      (λ n. rw (get_or-set_other l i j (f (get_or l i d)) d (λ e. n (sym e)), get_or-set_other l j i (g (get_or l j d)) d n) (set_comm l i j (f (get_or l i d)) (g (get_or l j d)) n))
      (d_eq i j)

pub given-back_swap : (m : List ℕ) (a b : ℕ) → given_back (given_back m a) b ≡ given_back (given_back m b) a
given-back_swap m a b = both_ways m 0 (λ w. bit_or w (2 ^ (a % 64))) (λ w. bit_or w (2 ^ (b % 64))) (λ w. or_swap w (2 ^ (a % 64)) (2 ^ (b % 64))) (head + a / 64) (head + b / 64)
