-- Whether the pool and the cell table are a storage can be decided. Assumes nothing.
use Rattle.basics.specs.Words.{ℕ, ◌+◌, List, arith}
use Rattle.basics.specs.Meaning.Says.{Decided}
use Rattle.basics.proofs.laws.Says.{d_via, d_and, d_eq, d_le, d_lt, d_all, d_any}
use Rattle.storage.specs.Meaning.Packed.{first, second, Packed}

pub d_packed : (used rows : ℕ) (pool cells : List (List ℕ)) → Decided (Packed used rows pool cells)
d_packed used rows pool cells =
    d_via
    (λ x. record { ordered = λ i j h l. x.0 j h i (omega arith); ascending = λ i j h l. x.1.0 j h i l; has_row = x.1.1.0; has_list = x.1.1.1.0; marks = x.1.1.1.1 })
    (λ h. ((λ j l i m. h.ordered i j l (omega arith)), ((λ j l i m. h.ascending i j l m), (h.has_row, (h.has_list, h.marks)))))
    (d_and (d_all (λ j. d_all (λ i. d_le (first pool i) (first pool j)) (j + 1)) used)
    (d_and (d_all (λ j. d_all (λ i. d_lt (first cells i) (first cells j)) j) rows)
    (d_and (d_all (λ j. d_any (λ r. d_eq (first cells r) (first pool j)) rows) used)
    (d_and (d_all (λ r. d_any (λ j. d_eq (first pool j) (first cells r)) used) rows)
    (d_all (λ r. d_le (second cells r) 1) rows)))))
