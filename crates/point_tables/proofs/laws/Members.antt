-- Some element, and every pair of elements in order, of a list: by places, of a part of it, and after one element more. Assumes nothing.
use Rattle.basics.specs.Words.{ℕ, zero, suc, ◌<◌, Bool, List, [], ◌∷◌, ◌⊎◌, inl, inr, ⊎_elim, length, get_or, ltb, not-suc-le-zero, le_of_suc-le-suc, arith}
use Rattle.storage.specs.Meaning.Keyed.{All, filter, append1}
use Rattle.storage.specs.Inner.Keyed.{Sorted}
use Rattle.storage.proofs.laws.FilterLaws.{by_test, all_map, all_at, all_of, filter_all}
use Rattle.storage.specs.Inner.Append.{insert1}
use Rattle.storage.proofs.laws.AppendLaws.{append1_is}

abbrev pub Some : {A : Type 0} → (A → Type 0) → List A → Type 0
Some P [] = ⊥
Some P (x ∷ l) = P x ⊎ Some P l

abbrev pub Pairs : {A : Type 0} → (A → A → Type 0) → List A → Type 0
Pairs R [] = Unit {0}
Pairs R (x ∷ l) = All (R x) l × Pairs R l

module _ {A : Type 0} where
  -- ---- some element, by its place
  pub some_at : (P : A → Type 0) (d : A) (l : List A) → Some P l → (i : ℕ) × (i < length l) × P (get_or l i d)
  some_at P d [] s = absurd s
  some_at P d (x ∷ l) (inl p) = (0, omega arith, p)
  some_at P d (x ∷ l) (inr s) =
      let h = some_at P d l s in
      (suc h.0, omega (arith, h.1), h.2)

  pub some_of : (P : A → Type 0) (d : A) (l : List A) (i : ℕ) → i < length l → P (get_or l i d) → Some P l
  some_of P d [] i h p = absurd (not-suc-le-zero h)
  some_of P d (x ∷ l) zero h p = inl p
  some_of P d (x ∷ l) (suc i) h p = inr (some_of P d l i (le_of_suc-le-suc h) p)

  -- ---- pairs, by their places
  pub pairs_at : (R : A → A → Type 0) (d : A) (l : List A) → Pairs R l → (i j : ℕ) → j < length l → i < j → R (get_or l i d) (get_or l j d)
  pairs_at R d [] p i j h g = absurd (not-suc-le-zero h)
  pairs_at R d (x ∷ l) p i zero h g = absurd (not-suc-le-zero g)
  pairs_at R d (x ∷ l) p zero (suc j) h g = all_at (R x) d l j (le_of_suc-le-suc h) p.0
  pairs_at R d (x ∷ l) p (suc i) (suc j) h g = pairs_at R d l p.1 i j (le_of_suc-le-suc h) (le_of_suc-le-suc g)

  pub pairs_of : (R : A → A → Type 0) (d : A) (l : List A) → ((i j : ℕ) → j < length l → i < j → R (get_or l i d) (get_or l j d)) → Pairs R l
  pairs_of R d [] f = tt
  pairs_of R d (x ∷ l) f = (all_of (R x) d l (λ j h. f 0 (suc j) (omega arith) (omega arith)), pairs_of R d l (λ i j h g. f (suc i) (suc j) (omega arith) (omega arith)))

  pub pairs_filter : (R : A → A → Type 0) (test : A → Bool) (l : List A) → Pairs R l → Pairs R (filter test l)
  pairs_filter R test [] p = tt
  pairs_filter R test (x ∷ l) p =
      by_test (test x) (λ e. rw e (filter_all test (R x) l p.0, pairs_filter R test l p.1)) (λ e. rw e (pairs_filter R test l p.1))

  -- ---- one element more, at the end of the list of its key
  module _ (key : A → ℕ) (e : A) where
    all_insert : (P : A → Type 0) (l : List A) → All P l → P e → All P (insert1 key l e)
    all_insert P [] a p = (p, tt)
    all_insert P (x ∷ l) a p = by_test (ltb (key e) (key x)) (λ q. rw q (p, a)) (λ q. rw q (a.0, all_insert P l a.1 p))

    some-insert : (P : A → Type 0) (l : List A) → Some P l → Some P (insert1 key l e)
    some-insert P [] s = absurd s
    some-insert P (x ∷ l) s =
        by_test (ltb (key e) (key x)) (λ q. rw q (inr s)) (λ q. rw q (⊎_elim (λ p. inl p) (λ r. inr (some-insert P l r)) s))

    new-insert : (P : A → Type 0) (l : List A) → P e → Some P (insert1 key l e)
    new-insert P [] p = inl p
    new-insert P (x ∷ l) p = by_test (ltb (key e) (key x)) (λ q. rw q (inl p)) (λ q. rw q (inr (new-insert P l p)))

    pairs_insert : (R : A → A → Type 0) → ((x : A) → R x e → R e x) → (l : List A) → Pairs R l → All (λ x. R x e) l → Pairs R (insert1 key l e)
    pairs_insert R f [] p a = (tt, tt)
    pairs_insert R f (x ∷ l) p a =
        by_test (ltb (key e) (key x))
        (λ q. rw q (all_map (λ y. R y e) (R e) f (x ∷ l) a, p))
        (λ q. rw q (all_insert (R x) l p.0 a.0, pairs_insert R f l p.1 a.1))

    module _ (l : List A) (sorted : Sorted key l) where
      pub some-append1 : (P : A → Type 0) → Some P l → Some P (append1 key l e)
      some-append1 P s = rw (append1_is key l e sorted) (some-insert P l s)

      pub new-append1 : (P : A → Type 0) → P e → Some P (append1 key l e)
      new-append1 P p = rw (append1_is key l e sorted) (new-insert P l p)

      -- a fact that holds either way round
      pub pairs_append1 : (R : A → A → Type 0) → ((x : A) → R x e → R e x) → Pairs R l → All (λ x. R x e) l → Pairs R (append1 key l e)
      pairs_append1 R f p a = rw (append1_is key l e sorted) (pairs_insert R f l p a)
