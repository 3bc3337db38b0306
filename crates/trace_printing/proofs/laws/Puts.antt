-- What a function that writes says: the text that it put, and at most how long that is. Assumes nothing.
-- Here: the laws.
use Rattle.basics.specs.Words.{ℕ, ◌+◌, ◌≤◌, ◌≡◌, sym, ap, ◌∙◌, List, [], ◌++◌, length, take, drop, take-append-drop, arith}
use Rattle.trace_decimals.specs.Meaning.Written.{Buffer, buffer, put_text}
use Rattle.trace_decimals.proofs.laws.WrittenLaws.{put-put, next_is}
use Rattle.trace_printing.specs.Inner.Puts.{Puts}

-- what decimals' calls say
pub puts_is : {a b : List ℕ} {at r : ℕ} {t : List ℕ} (k : ℕ) → buffer b r ≡ put_text (buffer a at) t → length t ≤ k → Puts a at b r t k
puts_is {a} {b} {at} {r} {t} k e l = record { put_is = e; short = omega (arith, next_is a at t e) }

-- nothing put
pub puts_none : (a : List ℕ) (at : ℕ) → Puts a at a at [] 0
unfolding put_text
puts_none a at =
    let n : at + 0 ≡ at = omega arith in
    record { put_is = λ z. buffer ((sym (take-append-drop at a) ∙ ap (λ (k : ℕ). take at a ++ drop k a) (sym n)) z) (sym n z); short = omega arith }

module _ {a b : List ℕ} {at m : ℕ} {s : List ℕ} {j : ℕ} (p : Puts a at b m s j) (l : at + j ≤ length a) where
  inside : at + length s ≤ length a
  inside = omega (arith, next_is a at s p.put_is, p.short)

  -- one text behind the other
  pub puts_then : {c : List ℕ} {r : ℕ} {t : List ℕ} {k : ℕ} → Puts b m c r t k → Puts a at c r (s ++ t) (j + k)
  puts_then {c} {r} {t} {k} q =
      record { put_is = q.put_is ∙ ap (λ (w : Buffer). put_text w t) p.put_is ∙ put-put (buffer a at) s t inside; short = omega (arith, p.short, q.short) }

-- the same text, said otherwise, and no longer
pub puts_as : {a b : List ℕ} {at m : ℕ} {s t : List ℕ} {j k : ℕ} → Puts a at b m s j → s ≡ t → j ≤ k → Puts a at b m t k
puts_as {a} {b} {at} {m} p e l = record { put_is = p.put_is ∙ ap (put_text (buffer a at)) e; short = omega (arith, p.short) }
