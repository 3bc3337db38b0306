-- Tables that are written twice, and rows that are put behind what was written. Assumes nothing.
use Rattle.basics.specs.Words.{ℕ, ◌+◌, ◌-◌, ◌≤◌, ◌≡◌, refl, sym, ap, ◌∙◌, List, ◌++◌, append_assoc, length, take, drop, length-append, slice, take_at, drop_at}
use Rattle.basics.specs.Words.{drop-drop, drop-append-add, arith}
use Rattle.storage.specs.Meaning.Keyed.{written}
use Rattle.point_maintain_slots.specs.Inner.Pass.{put_at}

module _ {A : Type 0} where
  drop_past : (a o : List A) (n : ℕ) → length a ≤ n → drop n (written a o) ≡ drop n o
  drop_past a o n h =
      let e : n ≡ length a + (n - length a) = omega arith in
      ap (λ (m : ℕ). drop m (written a o)) e
      ∙ drop-append-add a (drop (length a) o) (n - length a)
      ∙ drop-drop (n - length a) (length a) o
      ∙ ap (λ (m : ℕ). drop m o) (sym e)

  -- what is written over more than before leaves nothing of it
  pub written_over : (a b o : List A) → length a ≤ length b → written b (written a o) ≡ written b o
  written_over a b o h = ap (λ (m : List A). b ++ m) (drop_past a o (length b) h)

  -- rows put behind what was written
  module _ (a b o : List A) where
    abbrev both : List A
    both = a ++ b

    pub put-behind : put_at (length a) b (written a o) ≡ written both o
    put-behind =
        ap (λ (m : List A). m ++ (b ++ drop (length a + length b) (written a o))) (take_at a (drop (length a) o) (length a) refl)
        ∙ ap (λ (m : List A). a ++ (b ++ m)) (drop_past a o (length a + length b) (omega arith))
        ∙ sym (append_assoc a b (drop (length a + length b) o))
        ∙ ap (λ (n : ℕ). both ++ drop n o) (sym (length-append a b))

    pub both_first : take (length a) (written both o) ≡ a
    both_first = ap (take (length a)) (append_assoc a b (drop (length both) o)) ∙ take_at a (b ++ drop (length both) o) (length a) refl

    pub both-second : slice (length a) (length a + length b) (written both o) ≡ b
    both-second =
        ap (λ (n : ℕ). drop (length a) (take n (written both o))) (sym (length-append a b))
        ∙ ap (drop (length a)) (take_at both (drop (length both) o) (length both) refl)
        ∙ drop_at a b (length a) refl
