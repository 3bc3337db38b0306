-- Laws of rows that are put into a table from a place on. Assumes nothing.
use Rattle.basics.specs.Words.{ℕ, ◌+◌, ◌≤◌, ◌<◌, ◌≡◌, sym, ◌∙◌, ap, ap₂, List, [], ◌∷◌, ◌++◌, append_assoc, length, take, drop, set, length-append, length-drop}
use Rattle.basics.specs.Words.{take-append-drop, length-take-le, set_split, take_at, drop-append-add, drop-drop, add-zero, add-one, arith}
use Rattle.point_maintain_slots.specs.Inner.Pass.{put_at}

module _ {A : Type 0} (w : ℕ) where
  -- no row, and one row
  pub put-none : (l : List A) → put_at w [] l ≡ l
  put-none l = rw (add-zero w) (take-append-drop w l)

  pub put_one : (a : A) (l : List A) → w < length l → put_at w (a ∷ []) l ≡ set l w a
  put_one a l h = rw (add-one w) (sym (set_split l w a h))

  -- ---- the rows a, and then the rows b behind them
  module _ (a l : List A) (h : w + length a ≤ length l) where
    front_length : length (take w l ++ a) ≡ w + length a
    front_length = simp length-append (ap (λ (n : ℕ). n + length a) (length-take-le w l (omega arith)))

    split : put_at w a l ≡ (take w l ++ a) ++ drop (w + length a) l
    split = sym (append_assoc (take w l) a (drop (w + length a) l))

    pub put-length : length (put_at w a l) ≡ length l
    put-length = ap length split ∙ length-append (take w l ++ a) (drop (w + length a) l) ∙ omega (arith, front_length, length-drop (w + length a) l)

    behind : (n : ℕ) → drop (w + length a + n) (put_at w a l) ≡ drop (w + length a + n) l
    behind n =
        ap₂ drop (ap (λ (m : ℕ). m + n) (sym front_length)) split
        ∙ drop-append-add (take w l ++ a) (drop (w + length a) l) n
        ∙ drop-drop n (w + length a) l

    -- the rows stand behind what stood before them
    pub put_front : take (w + length a) (put_at w a l) ≡ take w l ++ a
    put_front = ap (take (w + length a)) split ∙ take_at (take w l ++ a) (drop (w + length a) l) (w + length a) front_length

    pub put-more : (b : List A) → put_at (w + length a) b (put_at w a l) ≡ put_at w (a ++ b) l
    put-more b =
        ap₂ ◌++◌ put_front (ap (λ (r : List A). b ++ r) (behind (length b)))
        ∙ append_assoc (take w l) a (b ++ drop (w + length a + length b) l)
        ∙ ap (λ (r : List A). take w l ++ r) (sym (append_assoc a b (drop (w + length a + length b) l)) ∙ ap (λ (n : ℕ). (a ++ b) ++ drop n l) sums)
      where
        sums : w + length a + length b ≡ w + length (a ++ b)
        sums = omega (arith, length-append a b)
