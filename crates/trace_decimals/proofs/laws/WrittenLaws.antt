-- Texts that are put one behind the other are one text; a text that is put is there, and the buffer stays as long. Assumes nothing.
use Rattle.basics.specs.Words.{ℕ, ◌+◌, ◌≤◌, ◌<◌, ◌≡◌, sym, ap, ◌∙◌, List, [], ◌∷◌, ◌++◌, append_assoc, length, take, drop, set, length-append, length-drop}
use Rattle.basics.specs.Words.{length-take-le, take_at, drop-append-add, drop-drop, set_split, add-one, arith}
use Rattle.trace_decimals.specs.Meaning.Written.{Buffer, buffer, put_text, put_text_at}

pub one_byte : (l : List ℕ) (at c : ℕ) → at < length l → buffer (set l at c) (at + 1) ≡ put_text (buffer l at) (c ∷ [])
unfolding put_text
one_byte l at c h = ap (λ (m : List ℕ). buffer m (at + 1)) (set_split l at c h ∙ ap (λ (k : ℕ). take at l ++ (c ∷ drop k l)) (sym (add-one at)))

module _ (l : List ℕ) (at : ℕ) (s : List ℕ) (room : at + length s ≤ length l) where
  front_length : length (take at l ++ s) ≡ at + length s
  front_length = length-append (take at l) s ∙ ap (λ (n : ℕ). n + length s) (length-take-le at l (omega arith))

  pub put_front : take (at + length s) (put_text_at l at s) ≡ take at l ++ s
  put_front = ap (take (at + length s)) (sym (append_assoc (take at l) s (drop (at + length s) l))) ∙ take_at (take at l ++ s) (drop (at + length s) l) (at + length s) front_length

  pub put_rest : (n : ℕ) → drop (at + length s + n) (put_text_at l at s) ≡ drop (at + length s + n) l
  put_rest n =
      ap (drop (at + length s + n)) (sym (append_assoc (take at l) s (drop (at + length s) l)))
      ∙ ap (λ (k : ℕ). drop (k + n) ((take at l ++ s) ++ drop (at + length s) l)) (sym front_length)
      ∙ drop-append-add (take at l ++ s) (drop (at + length s) l) n
      ∙ drop-drop n (at + length s) l

  pub put-length : length (put_text_at l at s) ≡ length l
  put-length = simp (length-append, length-drop, length-take-le at l (omega arith)) (omega arith)

  put_text_at-put_text_at : (t : List ℕ) → put_text_at (put_text_at l at s) (at + length s) t ≡ put_text_at l at (s ++ t)
  put_text_at-put_text_at t =
      let n : at + length s + length t ≡ at + length (s ++ t) = omega (arith, length-append s t) in
      (λ z. put_front z ++ (t ++ put_rest (length t) z))
      ∙ append_assoc (take at l) s (t ++ drop (at + length s + length t) l)
      ∙ ap (λ (m : List ℕ). take at l ++ m) (sym (append_assoc s t (drop (at + length s + length t) l)))
      ∙ ap (λ (k : ℕ). take at l ++ ((s ++ t) ++ drop k l)) n

pub put-put : (w : Buffer) (s t : List ℕ) → w.next + length s ≤ length w.bytes → put_text (put_text w s) t ≡ put_text w (s ++ t)
unfolding put_text
put-put w s t h = λ z. buffer (put_text_at-put_text_at w.bytes w.next s h t z) (n z)
  where
    n : w.next + length s + length t ≡ w.next + length (s ++ t)
    n = omega (arith, length-append s t)

-- what a contract says of the bytes and of the next place
module _ (l : List ℕ) (at : ℕ) (s : List ℕ) {m : List ℕ} {n : ℕ} (e : buffer m n ≡ put_text (buffer l at) s) where
  pub next_is : n ≡ at + length s
  unfolding put_text
  next_is = ap (λ (w : Buffer). w.next) e

  pub bytes-are : m ≡ put_text_at l at s
  unfolding put_text
  bytes-are = ap (λ (w : Buffer). w.bytes) e

  pub length_is : at + length s ≤ length l → length m ≡ length l
  length_is h = ap length bytes-are ∙ put-length l at s h
