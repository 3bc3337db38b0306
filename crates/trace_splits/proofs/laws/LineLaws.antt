-- How much of a line is handed out. Assumes nothing.
use Rattle.basics.specs.Words.{ℕ, min, ◌≡◌, sym, ap, ◌∙◌, List, ⊎_elim, length, take, length-take}
use Rattle.basics.specs.Words.{take_all, take-length, take-take, arith}
use Rattle.basics.proofs.laws.Says.{d_le}

pub same_part : (l : List ℕ) (m n : ℕ) → m ≡ n → take m l ≡ take n l
same_part l m n e = ap (λ (k : ℕ). take k l) e

-- the first m of the first n
pub take-first : (m n : ℕ) (l : List ℕ) → take m (take n l) ≡ take (min m n) l
take-first m n l =
    ⊎_elim
    (λ h. take-take m n l h ∙ same_part l m (min m n) (omega arith))
    (λ h. take_all m (take n l) (omega (arith, length-take n l)) ∙ same_part l n (min m n) (omega arith))
    (d_le m n)

pub take_short : (n : ℕ) (l : List ℕ) → take (min n (length l)) l ≡ take n l
take_short n l = sym (take-first n (length l) l) ∙ ap (take n) (take-length l)
