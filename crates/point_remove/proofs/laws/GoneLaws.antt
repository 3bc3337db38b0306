-- Taking an element out of a list: every other one stays, no two become alike, and none that passes is left. Assumes nothing.
use Rattle.basics.specs.Words.{ℕ, ◌≡◌, sym, ◌∙◌, Bool, true, false, List, [], ◌∷◌, ◌++◌, ◌⊎◌, inl, inr, ⊎_elim, arith}
use Rattle.basics.proofs.laws.Says.{apart}
use Rattle.storage.specs.Meaning.Keyed.{All, filter, under, below, above, on_list, last, front, close, take_out}
use Rattle.storage.specs.Inner.Keyed.{Sorted}
use Rattle.storage.proofs.laws.FilterLaws.{by_test, all_map, all_both, all_append, all_front, all_back, filter_all}
use Rattle.storage.proofs.laws.KeyedLaws.{all_below, all_above, sorted_parts}
use Rattle.storage.proofs.laws.TakeOutLaws.{has, all_close, all_take_out}
use Rattle.point_tables.proofs.laws.Members.{Some, Pairs, pairs_filter}

module _ {A : Type 0} where
  -- ---- some element, of two lists and of a part of one
  pub some_left : (P : A → Type 0) (a b : List A) → Some P a → Some P (a ++ b)
  some_left P [] b s = absurd s
  some_left P (x ∷ a) b s = ⊎_elim (λ p. inl p) (λ r. inr (some_left P a b r)) s

  pub some_right : (P : A → Type 0) (a b : List A) → Some P b → Some P (a ++ b)
  some_right P [] b s = s
  some_right P (x ∷ a) b s = inr (some_right P a b s)

  pub some_either : {G : Type 0} (P : A → Type 0) (a b : List A) → (Some P a → G) → (Some P b → G) → Some P (a ++ b) → G
  some_either P [] b f g s = g s
  some_either P (x ∷ a) b f g s = ⊎_elim (λ p. f (inl p)) (λ r. some_either P a b (λ q. f (inr q)) g r) s

  pub some-both : (P Q : A → Type 0) (l : List A) → Some P l → All Q l → Some (λ x. P x × Q x) l
  some-both P Q [] s a = s
  some-both P Q (x ∷ l) s a = ⊎_elim (λ p. inl (p, a.0)) (λ r. inr (some-both P Q l r a.1)) s

  pub some-filter : (P : A → Type 0) (test : A → Bool) → ((x : A) → P x → test x ≡ true) → (l : List A) → Some P l → Some P (filter test l)
  some-filter P test f [] s = s
  some-filter P test f (x ∷ l) s =
      by_test (test x)
      (λ e. rw e (⊎_elim (λ p. inl p) (λ r. inr (some-filter P test f l r)) s))
      (λ e. rw e (⊎_elim (λ p. absurd (apart (sym e ∙ f x p))) (λ r. some-filter P test f l r) s))

  pub some_has : (P : A → Type 0) (test : A → Bool) → ((x : A) → P x → test x ≡ true) → (l : List A) → Some P l → has test l ≡ true
  some_has P test f [] s = absurd s
  some_has P test f (x ∷ l) s =
      by_test (test x)
      (λ e. rw e)
      (λ e. rw e (⊎_elim (λ p. absurd (apart (sym e ∙ f x p))) (λ r. some_has P test f l r) s))

  -- ---- the last element moves into the gap
  some-ends : (P : A → Type 0) (x : A) (l : List A) → Some P (x ∷ l) → P (last x l) ⊎ Some P (front x l)
  some-ends P x [] (inl p) = inl p
  some-ends P x [] (inr r) = absurd r
  some-ends P x (y ∷ l) (inl p) = inr (inl p)
  some-ends P x (y ∷ l) (inr r) = ⊎_elim (λ p. inl p) (λ q. inr (inr q)) (some-ends P y l r)

  some-close : (P : A → Type 0) (l : List A) → Some P l → Some P (close l)
  some-close P [] s = s
  some-close P (x ∷ l) s = some-ends P x l s

  module _ (R : A → A → Type 0) (turn : (x y : A) → R x y → R y x) where
    pairs_ends : (x : A) (l : List A) → Pairs R (x ∷ l) → All (R (last x l)) (front x l) × Pairs R (front x l)
    pairs_ends x [] p = (tt, tt)
    pairs_ends x (y ∷ l) p =
        let r = pairs_ends y l p.1 in
        let a = all_close (R x) (y ∷ l) p.0 in
        ((turn x (last y l) a.0, r.0), (a.1, r.1))

    pairs_close : (l : List A) → Pairs R l → Pairs R (close l)
    pairs_close [] p = p
    pairs_close (x ∷ l) p = pairs_ends x l p

    pub pairs_take_out : (test : A → Bool) (l : List A) → Pairs R l → Pairs R (take_out test l)
    pairs_take_out test [] p = p
    pairs_take_out test (x ∷ l) p =
        by_test (test x)
        (λ e. rw e (pairs_close l p.1))
        (λ e. rw e (all_take_out (R x) test l p.0, pairs_take_out test l p.1))

  pub some-take_out : (P : A → Type 0) (test : A → Bool) → ((x : A) → P x → test x ≡ false) → (l : List A) → Some P l → Some P (take_out test l)
  some-take_out P test f [] s = s
  some-take_out P test f (x ∷ l) s =
      by_test (test x)
      (λ e. rw e (⊎_elim (λ p. absurd (apart (sym (f x p) ∙ e))) (λ r. some-close P l r) s))
      (λ e. rw e (⊎_elim (λ p. inl p) (λ r. inr (some-take_out P test f l r)) s))

  -- at most one passes, so none is left that does
  gone-take_out : (test : A → Bool) (l : List A) → Pairs (λ x y. test x ≡ true → test y ≡ false) l → All (λ x. test x ≡ false) (take_out test l)
  gone-take_out test [] p = tt
  gone-take_out test (x ∷ l) p =
      by_test (test x)
      (λ e. rw e (all_close _ l (all_map _ _ (λ y f. f e) l p.0)))
      (λ e. rw e (e, gone-take_out test l p.1))

  -- ---- pairs of two lists
  pairs_front : (R : A → A → Type 0) (a b : List A) → Pairs R (a ++ b) → Pairs R a
  pairs_front R [] b p = tt
  pairs_front R (x ∷ a) b p = (all_front (R x) a b p.0, pairs_front R a b p.1)

  pairs_back : (R : A → A → Type 0) (a b : List A) → Pairs R (a ++ b) → Pairs R b
  pairs_back R [] b p = p
  pairs_back R (x ∷ a) b p = pairs_back R a b p.1

  pairs_across : (R : A → A → Type 0) (a b : List A) → Pairs R (a ++ b) → All (λ x. All (R x) b) a
  pairs_across R [] b p = tt
  pairs_across R (x ∷ a) b p = (all_back (R x) a b p.0, pairs_across R a b p.1)

  pairs_join : (R : A → A → Type 0) (a b : List A) → Pairs R a → Pairs R b → All (λ x. All (R x) b) a → Pairs R (a ++ b)
  pairs_join R [] b p q w = q
  pairs_join R (x ∷ a) b p q w = (all_append (R x) a b p.0 w.0, pairs_join R a b p.1 q w.1)

  -- ---- one key's list changes
  module _ (key : A → ℕ) (k : ℕ) (f : List A → List A) (l : List A) where
    pub all_on_list : (P : A → Type 0) → (All P (under key k l) → All P (f (under key k l))) → All P l → All P (on_list key k f l)
    unfolding on_list
    all_on_list P g a =
        all_append P (below key k l) (f (under key k l) ++ above key k l) (filter_all _ P l a)
        (all_append P (f (under key k l)) (above key k l) (g (filter_all _ P l a)) (filter_all _ P l a))

    pub all_apart : (P : A → Type 0) → ((x : A) → (key x ≡ k → ⊥) → P x) → All P (f (under key k l)) → All P (on_list key k f l)
    unfolding on_list
    all_apart P g a =
        all_append P (below key k l) (f (under key k l) ++ above key k l) (all_map _ P (λ x h. g x (λ e. omega arith)) (below key k l) (all_below key k l))
        (all_append P (f (under key k l)) (above key k l) a (all_map _ P (λ x h. g x (λ e. omega arith)) (above key k l) (all_above key k l)))

    module _ (sorted : Sorted key l) where
      pub some-on_list : (P : A → Type 0) → (Some P (under key k l) → Some P (f (under key k l))) → Some P l → Some P (on_list key k f l)
      unfolding on_list
      some-on_list P g s =
          some_either P (below key k l) (under key k l ++ above key k l)
          (λ a. some_left P (below key k l) (f (under key k l) ++ above key k l) a)
          (λ b. some_right P (below key k l) (f (under key k l) ++ above key k l) (some_either P (under key k l) (above key k l) (λ u. some_left P (f (under key k l)) (above key k l) (g u)) (λ c. some_right P (f (under key k l)) (above key k l) c) b))
          (rw (sorted_parts key k l sorted) at s)

      pub pairs_on_list : (R : A → A → Type 0) → ((P : A → Type 0) → All P (under key k l) → All P (f (under key k l))) → (Pairs R (under key k l) → Pairs R (f (under key k l))) → Pairs R l → Pairs R (on_list key k f l)
      unfolding on_list
      pairs_on_list R g t p =
          let B = below key k l in
          let U = under key k l in
          let C = above key k l in
          let q : Pairs R (B ++ (U ++ C)) = rw (sorted_parts key k l sorted) at p in
          let r : Pairs R (U ++ C) = pairs_back R B (U ++ C) q in
          pairs_join R B (f U ++ C) (pairs_front R B (U ++ C) q)
          (pairs_join R (f U) C (t (pairs_front R U C r)) (pairs_back R U C r) (g _ (pairs_across R U C r)))
          (all_map _ _ (λ x a. all_append (R x) (f U) C (g (R x) (all_front (R x) U C a)) (all_back (R x) U C a)) B (pairs_across R B (U ++ C) q))

  -- ---- taking out of a key's list: all that pass have the key, and there is one at most
  pub gone-on_list : (key : A → ℕ) (k : ℕ) (test : A → Bool) (l : List A) → All (λ x. test x ≡ true → key x ≡ k) l → Pairs (λ x y. test x ≡ true → test y ≡ false) l → All (λ x. test x ≡ false) (on_list key k (take_out test) l)
  gone-on_list key k test l a p =
      all_both _ _ _ (λ x g h. h g) (on_list key k (take_out test) l)
      (all_on_list key k (take_out test) l _ (λ b. all_take_out _ test (under key k l) b) a)
      (all_apart key k (take_out test) l (λ x. (test x ≡ true → key x ≡ k) → test x ≡ false) (λ x n g. by_test (test x) (λ e. absurd (n (g e))) (λ e. e)) (all_map _ _ (λ x e g. e) (take_out test (under key k l)) (gone-take_out test (under key k l) (pairs_filter _ _ l p))))
