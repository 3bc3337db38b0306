-- What is said of columns of n rows, where they have m. Assumes nothing.
use Rattle.basics.specs.Words.{ℕ, ◌≡◌, sym, ap, Bool, eqb, eq-eqb, ne_eqb}
use Rattle.basics.specs.Meaning.Refusals.{pick}

module _ {X : Type 0} (n m : ℕ) (x refused : X) where
  pub rows_same : n ≡ m → x ≡ pick (eqb n m) x refused
  rows_same e = sym (ap (λ (b : Bool). pick b x refused) (eq-eqb n m e))

  pub rows_other : (n ≡ m → ⊥) → refused ≡ pick (eqb n m) x refused
  rows_other e = sym (ap (λ (b : Bool). pick b x refused) (ne_eqb n m e))
