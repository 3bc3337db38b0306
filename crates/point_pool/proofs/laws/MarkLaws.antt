-- Laws of the marks: none is set at first, and one more is set with each entry. Assumes nothing.
use Rattle.basics.specs.Words.{ℕ, zero, suc, ◌+◌, ◌<◌, ◌≡◌, refl, sym, ap, ◌∙◌, Bool, true, false, List, [], ◌∷◌, ◌⊎◌, inl, inr, ⊎_elim, length, get_or, set}
use Rattle.basics.specs.Words.{replicate, get_or-set_same, arith}
use borrow.Author.Count.{below_none, below_more}
use Rattle.basics.proofs.laws.Says.{apart}
use Rattle.storage.specs.Meaning.Packed.{second}
use Rattle.point_pool.specs.Inner.Pass.{Named}

none-set : (n m : ℕ) → get_or (replicate n false) m false ≡ false
none-set zero m = refl
none-set (suc n) zero = refl
none-set (suc n) (suc m) = none-set n m

stays-set : (l : List Bool) (m x : ℕ) → get_or l x false ≡ true → get_or (set l m true) x false ≡ true
stays-set [] m x e = e
stays-set (b ∷ l) zero zero e = refl
stays-set (b ∷ l) zero (suc x) e = e
stays-set (b ∷ l) (suc m) zero e = e
stays-set (b ∷ l) (suc m) (suc x) e = stays-set l m x e

was-set : (l : List Bool) (m x : ℕ) → get_or (set l m true) x false ≡ true → (m ≡ x) ⊎ (get_or l x false ≡ true)
was-set [] m x e = inr e
was-set (b ∷ l) zero zero e = inl refl
was-set (b ∷ l) zero (suc x) e = inr e
was-set (b ∷ l) (suc m) zero e = inr e
was-set (b ∷ l) (suc m) (suc x) e = ⊎_elim (λ q. inl (ap suc q)) (λ q. inr q) (was-set l m x e)

module _ (pool : List (List ℕ)) where
  pub named_none : (n : ℕ) → Named pool (replicate n false) 0
  named_none n = record { all = below_none _; only = λ s e. absurd (apart (sym (none-set n s) ∙ e)) }

  pub named_more : (marks : List Bool) (i s : ℕ) → s ≡ second pool i → s < length marks → Named pool marks i → Named pool (set marks s true) (i + 1)
  named_more marks i s e l r =
      record {
        all = below_more (λ j. get_or (set marks s true) (second pool j) false ≡ true) i (λ j q. stays-set marks s (second pool j) (r.all j q)) (rw (← e) (get_or-set_same marks s true false l));
        only = λ x t. ⊎_elim (λ q. (i, omega arith, sym e ∙ q)) (λ q. let o = r.only x q in (o.0, omega arith, o.2)) (was-set marks s x t);
      }

  -- a slot with no mark is named by none of the entries
  pub named_new : (marks : List Bool) (i s : ℕ) → get_or marks s false ≡ false → Named pool marks i → (j : ℕ) → j < i → second pool j ≡ s → ⊥
  named_new marks i s e r j h q = apart (sym e ∙ ap (λ (k : ℕ). get_or marks k false) (sym q) ∙ r.all j h)
