-- What the proofs of `spread` and `gather` share: columns and records written one after the other. Assumes nothing.
use Rattle.basics.specs.Words.{ℕ, zero, suc, ◌<◌, ◌≤◌, min, ◌≡◌, refl, sym, ap, List, [], ◌∷◌, length, get_or, set, ℤ, arith}
use lib.Ieee.{Float}
use Rattle.point_records.specs.declared.Record.{Record}
use Rattle.point_records.specs.Meaning.Columns.{record_at, record_of}
use Rattle.records.specs.Meaning.Spread.{laid, gathered}

-- ---- a column with the rows of the first i records
abbrev pub first_laid : {X : Type 0} → (Record → X) → List Record → List X → ℕ → List X
first_laid row [] old i = old
first_laid row (r ∷ rs) [] i = []
first_laid row (r ∷ rs) (o ∷ os) zero = o ∷ os
first_laid row (r ∷ rs) (o ∷ os) (suc i) = row r ∷ first_laid row rs os i

module _ {X : Type 0} (row : Record → X) where
  pub laid_0 : (rs : List Record) (old : List X) → first_laid row rs old 0 ≡ old
  laid_0 [] old = refl
  laid_0 (r ∷ rs) [] = refl
  laid_0 (r ∷ rs) (o ∷ os) = refl

  pub laid_all : (rs : List Record) (old : List X) (i : ℕ) → min (length rs) (length old) ≤ i → first_laid row rs old i ≡ laid row rs old
  laid_all [] old i h = refl
  laid_all (r ∷ rs) [] i h = refl
  laid_all (r ∷ rs) (o ∷ os) zero h = absurd (omega arith)
  laid_all (r ∷ rs) (o ∷ os) (suc i) h = ap (λ us. row r ∷ us) (laid_all rs os i (omega arith))

  pub laid_next : (rs : List Record) (old : List X) (i : ℕ) (d : Record) → i < length rs → set (first_laid row rs old i) i (row (get_or rs i d)) ≡ first_laid row rs old (suc i)
  laid_next [] old i d h = absurd (omega arith)
  laid_next (r ∷ rs) [] i d h = refl
  laid_next (r ∷ rs) (o ∷ os) zero d h = ap (λ us. row r ∷ us) (sym (laid_0 rs os))
  laid_next (r ∷ rs) (o ∷ os) (suc i) d h = ap (λ us. row r ∷ us) (laid_next rs os i d (omega arith))

-- ---- the records with those of the first i rows
abbrev pub first_gathered : List (List ℕ) → List (List Float) → List (List ℤ) → List Record → ℕ → List Record
first_gathered ns qs zs [] i = []
first_gathered [] qs zs (r ∷ rs) i = r ∷ rs
first_gathered (n ∷ ns) [] zs (r ∷ rs) i = r ∷ rs
first_gathered (n ∷ ns) (q ∷ qs) [] (r ∷ rs) i = r ∷ rs
first_gathered (n ∷ ns) (q ∷ qs) (z ∷ zs) (r ∷ rs) zero = r ∷ rs
first_gathered (n ∷ ns) (q ∷ qs) (z ∷ zs) (r ∷ rs) (suc i) = record_of n q z ∷ first_gathered ns qs zs rs i

pub gathered_0 : (ns : List (List ℕ)) (qs : List (List Float)) (zs : List (List ℤ)) (rs : List Record) → first_gathered ns qs zs rs 0 ≡ rs
gathered_0 ns qs zs [] = refl
gathered_0 [] qs zs (r ∷ rs) = refl
gathered_0 (n ∷ ns) [] zs (r ∷ rs) = refl
gathered_0 (n ∷ ns) (q ∷ qs) [] (r ∷ rs) = refl
gathered_0 (n ∷ ns) (q ∷ qs) (z ∷ zs) (r ∷ rs) = refl

pub gathered_all : (ns : List (List ℕ)) (qs : List (List Float)) (zs : List (List ℤ)) (rs : List Record) (i : ℕ) → min (length rs) (min (min (length ns) (length qs)) (length zs)) ≤ i → first_gathered ns qs zs rs i ≡ gathered ns qs zs rs
gathered_all ns qs zs [] i h = refl
gathered_all [] qs zs (r ∷ rs) i h = refl
gathered_all (n ∷ ns) [] zs (r ∷ rs) i h = refl
gathered_all (n ∷ ns) (q ∷ qs) [] (r ∷ rs) i h = refl
gathered_all (n ∷ ns) (q ∷ qs) (z ∷ zs) (r ∷ rs) zero h = absurd (omega arith)
gathered_all (n ∷ ns) (q ∷ qs) (z ∷ zs) (r ∷ rs) (suc i) h = ap (λ us. record_of n q z ∷ us) (gathered_all ns qs zs rs i (omega arith))

pub gathered_next : (ns : List (List ℕ)) (qs : List (List Float)) (zs : List (List ℤ)) (rs : List Record) (i : ℕ) → i < length ns → i < length qs → i < length zs → set (first_gathered ns qs zs rs i) i (record_at ns qs zs i) ≡ first_gathered ns qs zs rs (suc i)
gathered_next ns qs zs [] i a b c = refl
gathered_next [] qs zs (r ∷ rs) i a b c = absurd (omega arith)
gathered_next (n ∷ ns) [] zs (r ∷ rs) i a b c = absurd (omega arith)
gathered_next (n ∷ ns) (q ∷ qs) [] (r ∷ rs) i a b c = absurd (omega arith)
gathered_next (n ∷ ns) (q ∷ qs) (z ∷ zs) (r ∷ rs) zero a b c = ap (λ us. record_of n q z ∷ us) (sym (gathered_0 ns qs zs rs))
gathered_next (n ∷ ns) (q ∷ qs) (z ∷ zs) (r ∷ rs) (suc i) a b c = ap (λ us. record_of n q z ∷ us) (gathered_next ns qs zs rs i (omega arith) (omega arith) (omega arith))
