-- The digits but the last are put by the inner call, and the last is put after them. Assumes nothing.
use Rattle.basics.specs.Words.{ℕ, ◌+◌, ◌%◌, ◌<◌, ◌≡◌, sym, ap, ◌∙◌, [], ◌∷◌, arith}
use Rattle.trace_decimals.specs.Meaning.Text.{decimal}
use Rattle.trace_decimals.proofs.laws.TextLaws.{one_digit, last_digit, longer}
use Rattle.trace_decimals.proofs.laws.WrittenLaws.{next_is, put-put}
use Rattle.trace_decimals.proofs.+put_digits.Goals as goal

short : (n : ℕ) → n < 10 → (48 + n % 10) ∷ [] ≡ decimal n
short n h = ap (λ (k : ℕ). k ∷ []) (omega arith) ∙ sym (one_digit n h)

pub put_byte-requires : goal.put_byte-requires
put_byte-requires t c = grind (arith, one_digit)

pub returns-then-n-lt10 : goal.returns-then-n-lt10
returns-then-n-lt10 t c = grind (arith, short)

pub put_digits-end-requires : goal.put_digits-end-requires
put_digits-end-requires t c = grind (arith, longer)

pub put_byte-requires-2 : goal.put_byte-requires-2
put_byte-requires-2 t c = omega (arith, longer c.args.n (omega arith), next_is _ _ _ c.put_digits-end.ensures)

pub returns : goal.returns
returns t c = grind (arith, longer, last_digit, put-put)
