-- Laws of `append1` and `append_all`: each comes at the end of the list of its key, which in a sorted list is before the first greater
-- key. Assumes nothing.
-- Here: the laws.
use Rattle.basics.specs.Words.{ℕ, ◌+◌, ◌<◌, ◌≤◌, ◌≡◌, refl, sym, ◌∙◌, ap, List, [], ◌∷◌, ◌++◌, append-nil, append_assoc, length, length-append, ltb, eqb, arith}
use Rattle.basics.specs.Words.{ltb-true, ltb-false, eqb-true, eqb-false, lt-ltb, le-ltb, ne_eqb}
use Rattle.storage.specs.Meaning.Keyed.{All, under, below, above, on_list, append1, append_all}
use Rattle.storage.specs.Inner.Keyed.{Sorted}
use Rattle.storage.proofs.laws.FilterLaws.{by_test, all_map, all_append, filter-append, filter_all}
use Rattle.storage.proofs.laws.KeyedLaws.{all_under, under-on_list, under_other, sorted-on_list, length-on_list, none-under, none_below}
use Rattle.storage.proofs.laws.KeyedLaws.{whole_above}
use Rattle.storage.specs.Inner.Append.{insert1}

module _ {A : Type 0} (key : A → ℕ) where
  pub insert1-before : (x e : A) (l : List A) → key e < key x → insert1 key (x ∷ l) e ≡ e ∷ x ∷ l
  insert1-before x e l h = rw (lt-ltb (key e) (key x) h)

  pub insert1-after : (x e : A) (l : List A) → key x ≤ key e → insert1 key (x ∷ l) e ≡ x ∷ insert1 key l e
  insert1-after x e l h = rw (le-ltb (key e) (key x) h)

  append1-before : (x e : A) (l : List A) → Sorted key (x ∷ l) → key e < key x → append1 key (x ∷ l) e ≡ e ∷ x ∷ l
  unfolding append1 on_list
  append1-before x e l s h =
      let g : All (λ y. key e < key y) l = all_map (λ y. key x ≤ key y) (λ y. key e < key y) (λ y q. omega arith) l s.0 in
      rw (le-ltb (key x) (key e) (omega arith), ne_eqb (key x) (key e) (λ q. omega arith), lt-ltb (key e) (key x) h, none_below key (key e) l (all_map (λ y. key e < key y) (λ y. key e ≤ key y) (λ y q. omega arith) l g), none-under key (key e) l (all_map (λ y. key e < key y) (λ y. key y ≡ key e → ⊥) (λ y q r. omega arith) l g), whole_above key (key e) l g)

  append1-after : (x e : A) (l : List A) → Sorted key (x ∷ l) → key x ≤ key e → append1 key (x ∷ l) e ≡ x ∷ append1 key l e
  unfolding append1 on_list
  append1-after x e l s h =
      by_test (eqb (key x) (key e))
      (λ q.
      let q' : key x ≡ key e = eqb-true (key x) (key e) q in
      rw (le-ltb (key x) (key e) (omega arith), q, le-ltb (key e) (key x) h, none_below key (key e) l (all_map (λ y. key x ≤ key y) (λ y. key e ≤ key y) (λ y r. omega arith) l s.0)))
      (λ q.
      let n : key x ≡ key e → ⊥ = eqb-false (key x) (key e) q in
      rw (lt-ltb (key x) (key e) (omega arith), q, le-ltb (key e) (key x) h))

  pub append1_is : (l : List A) (e : A) → Sorted key l → append1 key l e ≡ insert1 key l e
  append1_is [] e s = unfold append1 on_list in refl
  append1_is (x ∷ l) e s =
      by_test (ltb (key e) (key x))
      (λ h. append1-before x e l s (ltb-true (key e) (key x) h) ∙ sym (insert1-before x e l (ltb-true (key e) (key x) h)))
      (λ h. append1-after x e l s (ltb-false (key e) (key x) h) ∙ ap (λ m. x ∷ m) (append1_is l e s.1) ∙ sym (insert1-after x e l (ltb-false (key e) (key x) h)))

  -- ---- one element
  own : (l : List A) (e : A) → All (λ x. key x ≡ key e) (under key (key e) l ++ (e ∷ []))
  own l e = all_append (λ x. key x ≡ key e) (under key (key e) l) (e ∷ []) (all_under key (key e) l) (refl, tt)

  pub sorted-append1 : (l : List A) (e : A) → Sorted key l → Sorted key (append1 key l e)
  unfolding append1
  sorted-append1 l e s = sorted-on_list key (key e) (λ r. r ++ (e ∷ [])) l (own l e) s

  pub under-append1 : (k : ℕ) (l : List A) (e : A) → under key k (append1 key l e) ≡ under key k l ++ under key k (e ∷ [])
  unfolding append1
  under-append1 k l e =
      by_test (eqb (key e) k)
      (λ q. rw (q, ← eqb-true (key e) k q) (under-on_list key (key e) (λ r. r ++ (e ∷ [])) l (own l e)))
      (λ q. rw q (under_other key (key e) (λ r. r ++ (e ∷ [])) l (own l e) k (λ z. eqb-false (key e) k q (sym z)) ∙ sym (append-nil (under key k l))))

  pub length-append1 : (l : List A) (e : A) → length (append1 key l e) ≡ length l + 1
  unfolding append1
  length-append1 l e = omega (arith, length-on_list key (key e) (λ r. r ++ (e ∷ [])) l, length-append (under key (key e) l) (e ∷ []))

  pub all_append1 : (P : A → Type 0) (l : List A) (e : A) → All P l → P e → All P (append1 key l e)
  unfolding append1 on_list
  all_append1 P l e a p =
      all_append P (below key (key e) l) ((under key (key e) l ++ (e ∷ [])) ++ above key (key e) l) (filter_all (λ x. ltb (key x) (key e)) P l a)
      (all_append P (under key (key e) l ++ (e ∷ [])) (above key (key e) l)
      (all_append P (under key (key e) l) (e ∷ []) (filter_all (λ x. eqb (key x) (key e)) P l a) (p, tt))
      (filter_all (λ x. ltb (key e) (key x)) P l a))

  -- ---- one after the other
  pub sorted-append_all : (l es : List A) → Sorted key l → Sorted key (append_all key l es)
  unfolding append_all
  sorted-append_all l [] s = s
  sorted-append_all l (e ∷ es) s = sorted-append_all (append1 key l e) es (sorted-append1 l e s)

  pub under-append_all : (k : ℕ) (l es : List A) → under key k (append_all key l es) ≡ under key k l ++ under key k es
  unfolding append_all
  under-append_all k l [] = sym (append-nil (under key k l))
  under-append_all k l (e ∷ es) =
      under-append_all k (append1 key l e) es
      ∙ ap (λ m. m ++ under key k es) (under-append1 k l e)
      ∙ append_assoc (under key k l) (under key k (e ∷ [])) (under key k es)
      ∙ ap (λ m. under key k l ++ m) (sym (filter-append (λ x. eqb (key x) k) (e ∷ []) es))

  pub length-append_all : (l es : List A) → length (append_all key l es) ≡ length l + length es
  unfolding append_all
  length-append_all l [] = omega arith
  length-append_all l (e ∷ es) = length-append_all (append1 key l e) es ∙ omega (arith, length-append1 l e)

  pub all_append_all : (P : A → Type 0) (l es : List A) → All P l → All P es → All P (append_all key l es)
  unfolding append_all
  all_append_all P l [] a b = a
  all_append_all P l (e ∷ es) a b = all_append_all P (append1 key l e) es (all_append1 P l e a b.0) b.1
