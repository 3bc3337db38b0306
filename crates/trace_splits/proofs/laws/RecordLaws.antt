-- Where bytes without a line end among them stand in the records.
use Rattle.basics.specs.Words.{ℕ, ◌≡◌, refl, ap, Bool, true, false, ◌&&◌, List, [], ◌∷◌, ◌++◌, eqb, eqb-true}
use Rattle.basics.proofs.laws.Says.{apart}
use Rattle.trace_splits.specs.Meaning.Records.{cr, lf, onto}
use Rattle.trace_splits.specs.Inner.Records.{records_of}

-- whether the last byte is a CR
abbrev pub ends_in_cr : List ℕ → Bool
ends_in_cr [] = false
ends_in_cr (b ∷ []) = eqb b cr
ends_in_cr (b ∷ c ∷ rest) = ends_in_cr (c ∷ rest)

-- no CR LF among the bytes
abbrev pub Plain : List ℕ → Type 0
Plain [] = Unit {0}
Plain (b ∷ []) = Unit {0}
Plain (b ∷ c ∷ rest) = ((eqb b cr && eqb c lf) ≡ false) × Plain (c ∷ rest)

abbrev pub alone : List ℕ → List (List ℕ)
alone [] = []
alone (b ∷ bs) = (b ∷ bs) ∷ []

pub plain_alone : (xs : List ℕ) → Plain xs → records_of xs ≡ alone xs
unfolding records_of
plain_alone [] h = refl
plain_alone (b ∷ []) h = refl
plain_alone (b ∷ c ∷ rest) h = rw h.0 (ap (onto b) (plain_alone (c ∷ rest) h.1))

never_both : (b : Bool) → (b && false) ≡ false
never_both true = refl
never_both false = refl

-- the CR LF after them ends them
pub plain_ended : (ys : List ℕ) → Plain (ys ++ cr ∷ []) → (rest : List ℕ) → records_of (ys ++ cr ∷ lf ∷ rest) ≡ ys ∷ records_of rest
unfolding records_of
plain_ended [] h rest = refl
plain_ended (b ∷ []) h rest = rw (never_both (eqb b cr)) refl
plain_ended (b ∷ c ∷ ys) h rest = rw h.0 (ap (onto b) (plain_ended (c ∷ ys) h.1 rest))

-- a byte more that ends nothing
pub plain_more : (xs : List ℕ) (b : ℕ) → Plain xs → (ends_in_cr xs && eqb b lf) ≡ false → Plain (xs ++ b ∷ [])
plain_more [] b h e = tt
plain_more (a ∷ []) b h e = (e, tt)
plain_more (a ∷ c ∷ xs) b h e = (h.0, plain_more (c ∷ xs) b h.1 e)

pub ends_in_cr_lem : (xs : List ℕ) → ends_in_cr xs ≡ true → (ys : List ℕ) × (xs ≡ ys ++ cr ∷ [])
ends_in_cr_lem [] e = absurd (apart e)
ends_in_cr_lem (b ∷ []) e = ([], ap (λ (n : ℕ). n ∷ []) (eqb-true b cr e))
ends_in_cr_lem (b ∷ c ∷ xs) e = let p = ends_in_cr_lem (c ∷ xs) e in (b ∷ p.0, ap (λ (l : List ℕ). b ∷ l) p.1)
