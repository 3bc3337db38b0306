-- Counting: the ones of the map's words are as many as its usable slots, and those as many as the free rows. Assumes nothing.
use Rattle.basics.specs.Words.{ℕ, zero, suc, ◌+◌, ◌-◌, ◌*◌, ◌%◌, ◌^◌, ◌≤◌, ◌<◌, ◌≡◌, refl, sym, ap, ap₂, ◌∙◌, subst, List, [], ⊎_elim, length, get_or, set}
use Rattle.basics.specs.Words.{get_or-set_same, get_or-set_other, eqb, le_refl, le_of_suc-le-suc, eq-or-lt_of_le, add-zero, add-suc, add_comm, mod-one, mod-lt}
use Rattle.basics.specs.Words.{mod-eq_of_lt, arith}
use lib.Arith.{digits_mod, digits_div}
use lib.Count.{ones, ones_cat}
use lib.Pow.{pow_pos, mod-pow-add}
use Rattle.basics.specs.Meaning.Refusals.{pick}
use Rattle.slots.specs.Meaning.Map.{head, words_for, bit, usable}
use Rattle.slots.specs.Inner.Map.{usable_below, NonePast}
use Rattle.slots.proofs.laws.Map.{ones_of}
use Rattle.slots.specs.Meaning.Slot.{free, phase_at, SlotsHold}
use Rattle.slots.proofs.laws.Slot.{in_phase}

-- ---- the ones of a word are its bits, counted one by one
ones_bit : (b : ℕ) → b < 2 → ones b ≡ b
unfolding ones
ones_bit zero h = refl
ones_bit (suc zero) h = refl
ones_bit (suc (suc b)) h = absurd (omega arith)

-- one bit more of a number's low bits
ones_low : (x k : ℕ) → ones (x % 2 ^ suc k) ≡ ones (x % 2 ^ k) + bit x k
ones_low x k =
    let e : suc k ≡ 1 + k = omega arith in
    ap (λ (j : ℕ). ones (x % 2 ^ j)) e ∙ ap ones (mod-pow-add x 1 k) ∙ ones_cat k (bit x k) (x % 2 ^ k) (mod-lt x (pow_pos k))
    ∙ ap (λ (b : ℕ). b + ones (x % 2 ^ k)) (ones_bit (bit x k) (omega arith)) ∙ add_comm (bit x k) (ones (x % 2 ^ k))

-- slot k of word w
in_word : (m : List ℕ) (w k : ℕ) → k < 64 → usable m (w * 64 + k) ≡ bit (get_or m (head + w) 0) k
in_word m w k h = rw (digits_div w h, digits_mod w h)

part_of_word : (m : List ℕ) (w k : ℕ) → k ≤ 64 → usable_below m (w * 64 + k) ≡ usable_below m (w * 64) + ones (get_or m (head + w) 0 % 2 ^ k)
unfolding usable_below ones
part_of_word m w zero h = rw (add-zero (w * 64), mod-one (get_or m (head + w) 0)) (sym (add-zero (usable_below m (w * 64))))
part_of_word m w (suc k) h =
    let e : usable_below m (w * 64 + suc k) ≡ usable_below m (w * 64 + k) + usable m (w * 64 + k) = ap (usable_below m) (add-suc (w * 64) k) in
    omega (arith, e, in_word m w k (omega arith), part_of_word m w k (omega arith), ones_low (get_or m (head + w) 0) k)

-- no more than all are usable
pub usable-most : (m : List ℕ) (k : ℕ) → usable_below m k ≤ k
unfolding usable_below
usable-most m zero = omega arith
usable-most m (suc k) = omega (arith, usable-most m k)

-- a whole word more
pub word_more : (m : List ℕ) (w : ℕ) → get_or m (head + w) 0 < 2 ^ 64 → usable_below m (suc w * 64) ≡ usable_below m (w * 64) + ones (get_or m (head + w) 0)
word_more m w h =
    let e : suc w * 64 ≡ w * 64 + 64 = omega arith in
    rw e (part_of_word m w 64 (omega arith) ∙ ap (λ (x : ℕ). usable_below m (w * 64) + ones x) (mod-eq_of_lt h))

-- the ones of the map are as many as the usable slots
pub ones_are-usable : (m : List ℕ) (w : ℕ) → ((v : ℕ) → v < w → get_or m (head + v) 0 < 2 ^ 64) → ones_of m w ≡ usable_below m (w * 64)
unfolding ones_of usable_below
ones_are-usable m zero h = refl
ones_are-usable m (suc w) h =
    omega (arith, ones_are-usable m w (λ v l. h v (omega arith)), word_more m w (h w (omega arith)))

-- ---- none is counted past the last slot
none_more : (m : List ℕ) (n d : ℕ) → ((s : ℕ) → n ≤ s → s < n + d → usable m s ≡ 0) → usable_below m (n + d) ≡ usable_below m n
unfolding usable_below
none_more m n zero f = ap (usable_below m) (add-zero n)
none_more m n (suc d) f =
    let e : usable_below m (n + suc d) ≡ usable_below m (n + d) + usable m (n + d) = ap (usable_below m) (add-suc n d) in
    omega (arith, e, none_more m n d (λ s a b. f s a (omega arith)), f (n + d) (omega arith) (omega arith))

pub usable_of_n : (m : List ℕ) (n : ℕ) → NonePast m n → usable_below m (words_for n * 64) ≡ usable_below m n
usable_of_n m n past =
    let e : words_for n * 64 ≡ n + (words_for n * 64 - n) = omega arith in
    ap (usable_below m) e ∙ none_more m n (words_for n * 64 - n) (λ s a b. past s (omega arith) a)

-- ---- the usable slots are the free rows
module _ (nums : List (List ℕ)) (map : List ℕ) (h : SlotsHold nums map) where
  pub usable-are-free-below : (k : ℕ) → k ≤ length nums → usable_below map k ≡ in_phase free nums k
  unfolding usable_below in_phase
  usable-are-free-below zero l = refl
  usable-are-free-below (suc k) l = ap₂ ◌+◌ (usable-are-free-below k (omega arith)) (h.each k (omega arith)).in_map

  pub usable-are-free : usable_below map (words_for (length nums) * 64) ≡ in_phase free nums (length nums)
  usable-are-free = usable_of_n map (length nums) h.past ∙ usable-are-free-below (length nums) (omega arith)

-- ---- how one row that changes changes the count of a phase
module _ (p : ℕ) (nums : List (List ℕ)) (s : ℕ) (row : List ℕ) where
  before-row : (k : ℕ) → k ≤ s → in_phase p (set nums s row) k ≡ in_phase p nums k
  unfolding in_phase
  before-row zero h = refl
  before-row (suc k) h = rw (get_or-set_other nums s k row [] (λ e. omega arith), before-row k (omega arith))

  pub in_phase_set : s < length nums → (k : ℕ) → s < k → in_phase p (set nums s row) k + pick (eqb (phase_at nums s) p) 1 0 ≡ in_phase p nums k + pick (eqb (get_or row 1 0) p) 1 0
  unfolding in_phase
  in_phase_set i zero h = absurd (omega arith)
  in_phase_set i (suc k) h = ⊎_elim at_row (λ l. past_row l (in_phase_set i k l)) (eq-or-lt_of_le (le_of_suc-le-suc h))
    where
      at_row : s ≡ k → in_phase p (set nums s row) (suc k) + pick (eqb (phase_at nums s) p) 1 0 ≡ in_phase p nums (suc k) + pick (eqb (get_or row 1 0) p) 1 0
      at_row e = subst (λ (j : ℕ). in_phase p (set nums s row) (suc j) + pick (eqb (phase_at nums s) p) 1 0 ≡ in_phase p nums (suc j) + pick (eqb (get_or row 1 0) p) 1 0) e (rw (get_or-set_same nums s row [] i, before-row s (le_refl s)) (omega arith))

      past_row : s < k → in_phase p (set nums s row) k + pick (eqb (phase_at nums s) p) 1 0 ≡ in_phase p nums k + pick (eqb (get_or row 1 0) p) 1 0 → in_phase p (set nums s row) (suc k) + pick (eqb (phase_at nums s) p) 1 0 ≡ in_phase p nums (suc k) + pick (eqb (get_or row 1 0) p) 1 0
      past_row l e = rw (get_or-set_other nums s k row [] (λ q. omega arith)) (omega arith)
