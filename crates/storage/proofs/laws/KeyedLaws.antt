-- Laws of sorted lists and of `on_list`: a sorted list is what stands below a key, the key's own list, and what stands above; `on_list`
-- changes that one list. Assumes nothing.
use Rattle.basics.specs.Words.{ℕ, ◌+◌, ◌<◌, ◌≤◌, ◌≡◌, refl, sym, ◌∙◌, ap, ap₂, Bool, true, false, List, [], ◌∷◌, ◌++◌, append-nil, nil≢cons, cons≢nil}
use Rattle.basics.specs.Words.{head-eq_of_cons-eq, tail-eq_of_cons-eq, length, length-append, ltb, eqb, arith, ltb-true, eqb-true, lt-ltb, le-ltb, eq-eqb}
use Rattle.basics.specs.Words.{ne_eqb}
use Rattle.storage.specs.Meaning.Keyed.{All, filter, under, below, above, on_list}
use Rattle.storage.specs.Inner.Keyed.{Sorted}
use Rattle.storage.proofs.laws.FilterLaws.{by_test, by_order, all_map, all_any, all_append, filter-append, filter_all, filter_gives}
use Rattle.storage.proofs.laws.FilterLaws.{filter-whole, filter_none, filter-within}

module _ {A : Type 0} (key : A → ℕ) where
  -- ---- the three parts, for any list
  pub all_under : (k : ℕ) (l : List A) → All (λ x. key x ≡ k) (under key k l)
  all_under k l = filter_gives (λ x. eqb (key x) k) (λ x. key x ≡ k) (λ x e. eqb-true (key x) k e) l

  pub all_below : (k : ℕ) (l : List A) → All (λ x. key x < k) (below key k l)
  all_below k l = filter_gives (λ x. ltb (key x) k) (λ x. key x < k) (λ x e. ltb-true (key x) k e) l

  pub all_above : (k : ℕ) (l : List A) → All (λ x. k < key x) (above key k l)
  all_above k l = filter_gives (λ x. ltb k (key x)) (λ x. k < key x) (λ x e. ltb-true k (key x) e) l

  -- a part of a list that is of one kind
  pub whole-under : (k : ℕ) (l : List A) → All (λ x. key x ≡ k) l → under key k l ≡ l
  whole-under k l a = filter-whole (λ x. eqb (key x) k) l (all_map (λ x. key x ≡ k) (λ x. eqb (key x) k ≡ true) (λ x e. eq-eqb (key x) k e) l a)

  pub whole_below : (k : ℕ) (l : List A) → All (λ x. key x < k) l → below key k l ≡ l
  whole_below k l a = filter-whole (λ x. ltb (key x) k) l (all_map (λ x. key x < k) (λ x. ltb (key x) k ≡ true) (λ x e. lt-ltb (key x) k e) l a)

  pub whole_above : (k : ℕ) (l : List A) → All (λ x. k < key x) l → above key k l ≡ l
  whole_above k l a = filter-whole (λ x. ltb k (key x)) l (all_map (λ x. k < key x) (λ x. ltb k (key x) ≡ true) (λ x e. lt-ltb k (key x) e) l a)

  pub none-under : (k : ℕ) (l : List A) → All (λ x. key x ≡ k → ⊥) l → under key k l ≡ []
  none-under k l a = filter_none (λ x. eqb (key x) k) l (all_map (λ x. key x ≡ k → ⊥) (λ x. eqb (key x) k ≡ false) (λ x e. ne_eqb (key x) k e) l a)

  pub none_below : (k : ℕ) (l : List A) → All (λ x. k ≤ key x) l → below key k l ≡ []
  none_below k l a = filter_none (λ x. ltb (key x) k) l (all_map (λ x. k ≤ key x) (λ x. ltb (key x) k ≡ false) (λ x e. le-ltb (key x) k e) l a)

  pub none_above : (k : ℕ) (l : List A) → All (λ x. key x ≤ k) l → above key k l ≡ []
  none_above k l a = filter_none (λ x. ltb k (key x)) l (all_map (λ x. key x ≤ k) (λ x. ltb k (key x) ≡ false) (λ x e. le-ltb k (key x) e) l a)

  -- what stands below, at and above k, put together: its parts are these
  module _ (k : ℕ) (a b c : List A) (p : All (λ x. key x < k) a) (q : All (λ x. key x ≡ k) b) (r : All (λ x. k < key x) c) where
    pub joined-under : under key k (a ++ (b ++ c)) ≡ b
    joined-under =
        rw (filter-append (λ x. eqb (key x) k) a (b ++ c), filter-append (λ x. eqb (key x) k) b c, whole-under k b q, none-under k a (all_map (λ x. key x < k) (λ x. key x ≡ k → ⊥) (λ x h e. omega arith) a p), none-under k c (all_map (λ x. k < key x) (λ x. key x ≡ k → ⊥) (λ x h e. omega arith) c r))
        (append-nil b)

    pub joined-below : below key k (a ++ (b ++ c)) ≡ a
    joined-below =
        rw (filter-append (λ x. ltb (key x) k) a (b ++ c), filter-append (λ x. ltb (key x) k) b c, whole_below k a p, none_below k b (all_map (λ x. key x ≡ k) (λ x. k ≤ key x) (λ x h. omega arith) b q), none_below k c (all_map (λ x. k < key x) (λ x. k ≤ key x) (λ x h. omega arith) c r))
        (append-nil a)

    pub joined-above : above key k (a ++ (b ++ c)) ≡ c
    joined-above =
        rw (filter-append (λ x. ltb k (key x)) a (b ++ c), filter-append (λ x. ltb k (key x)) b c, whole_above k c r, none_above k a (all_map (λ x. key x < k) (λ x. key x ≤ k) (λ x h. omega arith) a p), none_above k b (all_map (λ x. key x ≡ k) (λ x. key x ≤ k) (λ x h. omega arith) b q))

  -- ---- lengths, for any list
  pub length_parts : (k : ℕ) (l : List A) → length (below key k l) + (length (under key k l) + length (above key k l)) ≡ length l
  length_parts k [] = refl
  length_parts k (x ∷ l) =
      by_order (key x) k
      (λ h. rw (lt-ltb (key x) k h, ne_eqb (key x) k (λ e. omega arith), le-ltb k (key x) (omega arith)) (omega (arith, length_parts k l)))
      (λ h. rw (le-ltb (key x) k (omega arith), eq-eqb (key x) k h, le-ltb k (key x) (omega arith)) (omega (arith, length_parts k l)))
      (λ h. rw (le-ltb (key x) k (omega arith), ne_eqb (key x) k (λ e. omega arith), lt-ltb k (key x) h) (omega (arith, length_parts k l)))

  pub length-on_list : (k : ℕ) (f : List A → List A) (l : List A) → length (on_list key k f l) + length (under key k l) ≡ length l + length (f (under key k l))
  unfolding on_list
  length-on_list k f l = simp length-append (omega (arith, length_parts k l))

  -- ---- sorted lists
  pub sorted_parts : (k : ℕ) (l : List A) → Sorted key l → l ≡ below key k l ++ (under key k l ++ above key k l)
  sorted_parts k [] s = refl
  sorted_parts k (x ∷ l) s =
      by_order (key x) k
      (λ h.
      rw (lt-ltb (key x) k h, ne_eqb (key x) k (λ e. omega arith), le-ltb k (key x) (omega arith))
      (ap (λ m. x ∷ m) (sorted_parts k l s.1)))
      (λ h.
      let n : below key k l ≡ [] = none_below k l (all_map (λ y. key x ≤ key y) (λ y. k ≤ key y) (λ y q. omega arith) l s.0) in
      rw (le-ltb (key x) k (omega arith), eq-eqb (key x) k h, le-ltb k (key x) (omega arith), n)
      (ap (λ m. x ∷ m) (sorted_parts k l s.1 ∙ rw n)))
      (λ h.
      let g : All (λ y. k < key y) l = all_map (λ y. key x ≤ key y) (λ y. k < key y) (λ y q. omega arith) l s.0 in
      rw (le-ltb (key x) k (omega arith), ne_eqb (key x) k (λ e. omega arith), lt-ltb k (key x) h, none_below k l (all_map (λ y. k < key y) (λ y. k ≤ key y) (λ y q. omega arith) l g), none-under k l (all_map (λ y. k < key y) (λ y. key y ≡ k → ⊥) (λ y q e. omega arith) l g))
      (ap (λ m. x ∷ m) (sym (whole_above k l g))))

  pub sorted_filter : (test : A → Bool) (l : List A) → Sorted key l → Sorted key (filter test l)
  sorted_filter test [] s = tt
  sorted_filter test (x ∷ l) s =
      by_test (test x)
      (λ e. rw e (filter_all test (λ y. key x ≤ key y) l s.0, sorted_filter test l s.1))
      (λ e. rw e (sorted_filter test l s.1))

  pub sorted_flat : (k : ℕ) (l : List A) → All (λ x. key x ≡ k) l → Sorted key l
  sorted_flat k [] a = tt
  sorted_flat k (x ∷ l) a = let e : key x ≡ k = a.0 in (all_map (λ y. key y ≡ k) (λ y. key x ≤ key y) (λ y q. omega arith) l a.1, sorted_flat k l a.1)

  -- a sorted list up to k, and one from k on
  pub sorted_join : (k : ℕ) (a b : List A) → Sorted key a → Sorted key b → All (λ x. key x ≤ k) a → All (λ x. k ≤ key x) b → Sorted key (a ++ b)
  sorted_join k [] b s t p q = t
  sorted_join k (x ∷ a) b s t p q =
      let h : key x ≤ k = p.0 in
      (all_append (λ y. key x ≤ key y) a b s.0 (all_map (λ y. k ≤ key y) (λ y. key x ≤ key y) (λ y g. omega arith) b q), sorted_join k a b s.1 t p.1 q)

  -- two sorted lists with the same list for every key are one
  module _ (x y : A) (a b : List A) (h : (k : ℕ) → under key k (x ∷ a) ≡ under key k (y ∷ b)) where
    not_less : All (λ z. key y ≤ key z) b → key x < key y → ⊥
    not_less u l =
        let z : under key (key x) (y ∷ b) ≡ [] = none-under (key x) (y ∷ b) ((λ e. omega arith), all_map (λ z. key y ≤ key z) (λ z. key z ≡ key x → ⊥) (λ z q e. omega arith) b u) in
        cons≢nil (rw (eq-eqb (key x) (key x) refl) at (h (key x) ∙ z))

    both_first : key x ≡ key y → x ∷ under key (key x) a ≡ y ∷ under key (key x) b
    both_first e = rw (eq-eqb (key x) (key x) refl, eq-eqb (key y) (key x) (sym e)) at (h (key x))

    rest-same : key x ≡ key y → (k : ℕ) → under key k a ≡ under key k b
    rest-same e k =
        by_test (eqb (key x) k)
        (λ q. rw (← eqb-true (key x) k q) (tail-eq_of_cons-eq (both_first e)))
        (λ q. let q' : eqb (key y) k ≡ false = rw (← e) q in rw (q, q') at (h k))

  pub sorted_determined : (a b : List A) → Sorted key a → Sorted key b → ((k : ℕ) → under key k a ≡ under key k b) → a ≡ b
  sorted_determined [] [] s t h = refl
  sorted_determined [] (y ∷ b) s t h = absurd (nil≢cons (rw (eq-eqb (key y) (key y) refl) at (h (key y))))
  sorted_determined (x ∷ a) [] s t h = absurd (cons≢nil (rw (eq-eqb (key x) (key x) refl) at (h (key x))))
  sorted_determined (x ∷ a) (y ∷ b) s t h =
      by_order (key x) (key y)
      (λ l. absurd (not_less x y a b h t.0 l))
      (λ e. ap₂ {C = List A} (λ (z : A) (zs : List A). z ∷ zs) (head-eq_of_cons-eq (both_first x y a b h e)) (sorted_determined a b s.1 t.1 (rest-same x y a b h e)))
      (λ l. absurd (not_less y x b a (λ k. sym (h k)) s.0 l))

  -- ---- one list changed, where what comes of it has its key
  module _ (k : ℕ) (f : List A → List A) (l : List A) (own : All (λ x. key x ≡ k) (f (under key k l))) where
    pub under-on_list : under key k (on_list key k f l) ≡ f (under key k l)
    unfolding on_list
    under-on_list = joined-under k (below key k l) (f (under key k l)) (above key k l) (all_below k l) own (all_above k l)

    pub under_other : (j : ℕ) → (j ≡ k → ⊥) → under key j (on_list key k f l) ≡ under key j l
    unfolding on_list
    under_other j n =
        rw (filter-append (λ x. eqb (key x) j) (below key k l) (f (under key k l) ++ above key k l), filter-append (λ x. eqb (key x) j) (f (under key k l)) (above key k l), none-under j (f (under key k l)) (all_map (λ x. key x ≡ k) (λ x. key x ≡ j → ⊥) (λ x e q. n (sym q ∙ e)) (f (under key k l)) own))
        (by_order j k
        (λ h.
        rw (none-under j (above key k l) (all_map (λ x. k < key x) (λ x. key x ≡ j → ⊥) (λ x g e. omega arith) (above key k l) (all_above k l)))
        (append-nil (under key j (below key k l))
        ∙ filter-within (λ x. eqb (key x) j) (λ x. ltb (key x) k) l (all_any (λ x. eqb (key x) j ≡ true → ltb (key x) k ≡ true) (λ x e. lt-ltb (key x) k (omega (arith, eqb-true (key x) j e))) l)))
        (λ h. absurd (n h))
        (λ h.
        rw (none-under j (below key k l) (all_map (λ x. key x < k) (λ x. key x ≡ j → ⊥) (λ x g e. omega arith) (below key k l) (all_below k l)))
        (filter-within (λ x. eqb (key x) j) (λ x. ltb k (key x)) l (all_any (λ x. eqb (key x) j ≡ true → ltb k (key x) ≡ true) (λ x e. lt-ltb k (key x) (omega (arith, eqb-true (key x) j e))) l))))

    pub sorted-on_list : Sorted key l → Sorted key (on_list key k f l)
    unfolding on_list
    sorted-on_list s =
        sorted_join k (below key k l) (f (under key k l) ++ above key k l) (sorted_filter (λ x. ltb (key x) k) l s)
        (sorted_join k (f (under key k l)) (above key k l) (sorted_flat k (f (under key k l)) own) (sorted_filter (λ x. ltb k (key x)) l s) (all_map (λ x. key x ≡ k) (λ x. key x ≤ k) (λ x e. omega arith) (f (under key k l)) own) up)
        (all_map (λ x. key x < k) (λ x. key x ≤ k) (λ x e. omega arith) (below key k l) (all_below k l))
        (all_append (λ x. k ≤ key x) (f (under key k l)) (above key k l) (all_map (λ x. key x ≡ k) (λ x. k ≤ key x) (λ x e. omega arith) (f (under key k l)) own) up)
      where
        up : All (λ x. k ≤ key x) (above key k l)
        up = all_map (λ x. k < key x) (λ x. k ≤ key x) (λ x e. omega arith) (above key k l) (all_above k l)

  -- nothing changed
  pub on_list-same : (k : ℕ) (f : List A → List A) (l : List A) → Sorted key l → f (under key k l) ≡ under key k l → on_list key k f l ≡ l
  unfolding on_list
  on_list-same k f l s e = rw e (sym (sorted_parts k l s))

  -- a list that stands as its three parts
  pub on_list_parts : (k : ℕ) (f : List A → List A) (a b c : List A) → All (λ x. key x < k) a → All (λ x. key x ≡ k) b → All (λ x. k < key x) c
      → on_list key k f (a ++ (b ++ c)) ≡ a ++ (f b ++ c)
  unfolding on_list
  on_list_parts k f a b c p q r = rw (joined-below k a b c p q r, joined-under k a b c p q r, joined-above k a b c p q r)

  -- two changes that agree on the key's list
  pub on_list_agree : (k : ℕ) (f g : List A → List A) (l : List A) → f (under key k l) ≡ g (under key k l) → on_list key k f l ≡ on_list key k g l
  unfolding on_list
  on_list_agree k f g l e = rw e
