-- Taking an item out of the lists of keys that rise: each list of a key loses it, and every other list stays. Assumes nothing.
use Rattle.basics.specs.Words.{ℕ, ◌+◌, ◌<◌, ◌≤◌, ◌≡◌, refl, sym, ◌∙◌, ap, Bool, true, false, List, [], ◌∷◌, ◌++◌, append-nil, length, ltb, eqb, arith, eqb-true}
use Rattle.basics.specs.Words.{eqb-false}
use Rattle.basics.specs.Meaning.Refusals.{pick}
use Rattle.cells.specs.Inner.Rising.{Rising}
use Rattle.storage.specs.Meaning.Keyed.{All, under, below, above, on_list, close, take_out}
use Rattle.storage.specs.Inner.Keyed.{Sorted}
use Rattle.storage.specs.Meaning.Entries.{row_key, is_item}
use Rattle.storage.proofs.laws.FilterLaws.{by_test, all_map, all_both, all_append, filter_all, filter-append}
use Rattle.storage.proofs.laws.KeyedLaws.{none-under, whole-under, sorted_flat, sorted_join, sorted_determined}
use Rattle.storage.proofs.laws.TakeOutLaws.{has, has_none, all_close, all_take_out, sorted-take_out, under-take_out, under-take_out_other}
use Rattle.storage.proofs.laws.TakeOutLaws.{length-on_list-take_out}
use Rattle.box_cover.specs.Inner.Taken.{taken_from}
use Rattle.box_cover.proofs.laws.ListLaws.{take_out-past, sorted_back, sorted-front_of, rising-out}

-- whether a key is one of some
abbrev pub among : ℕ → List ℕ → Bool
among k ks = has (λ j. eqb j k) ks

module _ (i : ℕ) where
  -- taken out of the list of one key
  abbrev without : ℕ → List (List ℕ) → List (List ℕ)
  without k rows = on_list row_key k (take_out (is_item i)) rows

  without_all : (P : List ℕ → Type 0) (k : ℕ) (rows : List (List ℕ)) → All P rows → All P (without k rows)
  unfolding on_list
  without_all P k rows p =
      all_append P (below row_key k rows) (take_out (is_item i) (under row_key k rows) ++ above row_key k rows) (filter_all (λ x. ltb (row_key x) k) P rows p)
      (all_append P (take_out (is_item i) (under row_key k rows)) (above row_key k rows)
      (all_take_out P (is_item i) (under row_key k rows) (filter_all (λ x. eqb (row_key x) k) P rows p))
      (filter_all (λ x. ltb k (row_key x)) P rows p))

  pub taken_all : (P : List ℕ → Type 0) (ks : List ℕ) (rows : List (List ℕ)) → All P rows → All P (taken_from ks i rows)
  taken_all P [] rows p = p
  taken_all P (k ∷ ks) rows p = taken_all P ks (without k rows) (without_all P k rows p)

  pub taken-sorted : (ks : List ℕ) (rows : List (List ℕ)) → Sorted row_key rows → Sorted row_key (taken_from ks i rows)
  taken-sorted [] rows s = s
  taken-sorted (k ∷ ks) rows s = taken-sorted ks (without k rows) (sorted-take_out row_key k (is_item i) rows s)

  pub taken-nil : (ks : List ℕ) → taken_from ks i [] ≡ []
  unfolding on_list
  taken-nil [] = refl
  taken-nil (k ∷ ks) = taken-nil ks

  -- each list once
  pub taken-under : (k : ℕ) (ks : List ℕ) (rows : List (List ℕ)) → Rising ks → under row_key k (taken_from ks i rows) ≡ pick (among k ks) (take_out (is_item i) (under row_key k rows)) (under row_key k rows)
  taken-under k [] rows r = refl
  taken-under k (j ∷ ks) rows r =
      taken-under k ks (without j rows) r.1
      ∙ by_test (eqb j k)
      (λ e.
      let q : j ≡ k = eqb-true j k e in
      let n : among k ks ≡ false = has_none (λ x. eqb x k) ks (rising-out k ks (rw q at r.0)) in
      rw (e, n, q) (under-take_out row_key k (is_item i) rows))
      (λ e. rw (e, under-take_out_other row_key j (is_item i) rows k (λ z. eqb-false j k e (sym z))))

  -- one entry less for each
  pub taken-length : (ks : List ℕ) (rows : List (List ℕ)) → Rising ks → All (λ k. has (is_item i) (under row_key k rows) ≡ true) ks → length (taken_from ks i rows) + length ks ≡ length rows
  taken-length [] rows r h = omega arith
  taken-length (j ∷ ks) rows r h =
      omega (
        arith,
        taken-length ks (without j rows) r.1
            (all_both (λ k. eqb k j ≡ false) (λ k. has (is_item i) (under row_key k rows) ≡ true) (λ k. has (is_item i) (under row_key k (without j rows)) ≡ true)
            (λ k e q. rw (under-take_out_other row_key j (is_item i) rows k (eqb-false k j e)) q)
            ks (rising-out j ks r.0) h.1),
        length-on_list-take_out row_key j (is_item i) rows h.0,
      )

  -- ---- part by part
  module _ (ks : List ℕ) (r : Rising ks) where
    -- rows in front that have not the item, or are in other lists
    pub taken-front : (u l : List (List ℕ)) → Sorted row_key (u ++ l) → ((k : ℕ) → among k ks ≡ true → All (λ x. is_item i x ≡ false) (under row_key k u)) → taken_from ks i (u ++ l) ≡ u ++ taken_from ks i l
    taken-front u l s f =
        sorted_determined row_key (taken_from ks i (u ++ l)) (u ++ taken_from ks i l) (taken-sorted ks (u ++ l) s)
        (sorted-front_of row_key u l (taken_from ks i l) s (taken-sorted ks l (sorted_back row_key u l s)) (λ k p. taken_all (λ x. k ≤ row_key x) ks l p))
        (λ k.
        taken-under k ks (u ++ l) r
        ∙ rw (filter-append (λ x. eqb (row_key x) k) u l, filter-append (λ x. eqb (row_key x) k) u (taken_from ks i l), taken-under k ks l r)
        (by_test (among k ks)
        (λ e. rw e (take_out-past (is_item i) (under row_key k u) (under row_key k l) (f k e)))
        (λ e. rw e)))

    -- rows behind that are in other lists
    pub taken_back : (l v : List (List ℕ)) (m : ℕ) → Sorted row_key l → Sorted row_key v → All (λ x. row_key x ≤ m) l → All (λ x. m < row_key x) v → ((k : ℕ) → among k ks ≡ true → k ≤ m) → taken_from ks i (l ++ v) ≡ taken_from ks i l ++ v
    taken_back l v m s u p q f =
        let q' : All (λ x. m ≤ row_key x) v = all_map (λ x. m < row_key x) (λ x. m ≤ row_key x) (λ x h. omega arith) v q in
        sorted_determined row_key (taken_from ks i (l ++ v)) (taken_from ks i l ++ v) (taken-sorted ks (l ++ v) (sorted_join row_key m l v s u p q'))
        (sorted_join row_key m (taken_from ks i l) v (taken-sorted ks l s) u (taken_all (λ x. row_key x ≤ m) ks l p) q')
        (λ k.
        taken-under k ks (l ++ v) r
        ∙ rw (filter-append (λ x. eqb (row_key x) k) l v, filter-append (λ x. eqb (row_key x) k) (taken_from ks i l) v, taken-under k ks l r)
        (by_test (among k ks)
        (λ e.
        let n : under row_key k v ≡ [] = none-under row_key k v (all_map (λ x. m < row_key x) (λ x. row_key x ≡ k → ⊥) (λ x h z. omega (arith, f k e)) v q) in
        rw (e, n) (ap (take_out (is_item i)) (append-nil (under row_key k l)) ∙ sym (append-nil (take_out (is_item i) (under row_key k l)))))
        (λ e. rw e)))

    -- the item itself, the rest of its list, and the lists behind it
    pub taken_gap : (x : List ℕ) (b c : List (List ℕ)) → Sorted row_key (x ∷ (b ++ c)) → is_item i x ≡ true → among (row_key x) ks ≡ true → All (λ y. row_key y ≡ row_key x) b → All (λ y. row_key x < row_key y) c
        → taken_from ks i (x ∷ (b ++ c)) ≡ close b ++ taken_from ks i c
    taken_gap x b c s t a p q =
        let p' : All (λ y. row_key y ≡ row_key x) (close b) = all_close (λ y. row_key y ≡ row_key x) b p in
        let q' : All (λ y. row_key x < row_key y) (taken_from ks i c) = taken_all (λ y. row_key x < row_key y) ks c q in
        sorted_determined row_key (taken_from ks i (x ∷ (b ++ c))) (close b ++ taken_from ks i c) (taken-sorted ks (x ∷ (b ++ c)) s)
        (sorted_join row_key (row_key x) (close b) (taken_from ks i c) (sorted_flat row_key (row_key x) (close b) p') (taken-sorted ks c (sorted_back row_key b c s.1))
        (all_map (λ y. row_key y ≡ row_key x) (λ y. row_key y ≤ row_key x) (λ y e. omega arith) (close b) p') (all_map (λ y. row_key x < row_key y) (λ y. row_key x ≤ row_key y) (λ y e. omega arith) (taken_from ks i c) q'))
        (λ k.
        taken-under k ks (x ∷ (b ++ c)) r
        ∙ rw (filter-append (λ y. eqb (row_key y) k) b c, filter-append (λ y. eqb (row_key y) k) (close b) (taken_from ks i c))
        (by_test (eqb (row_key x) k)
        (λ e.
        let g : row_key x ≡ k = eqb-true (row_key x) k e in
        let n : under row_key k c ≡ [] = none-under row_key k c (all_map (λ y. row_key x < row_key y) (λ y. row_key y ≡ k → ⊥) (λ y h z. omega arith) c q) in
        let m : under row_key k (taken_from ks i c) ≡ [] = none-under row_key k (taken_from ks i c) (all_map (λ y. row_key x < row_key y) (λ y. row_key y ≡ k → ⊥) (λ y h z. omega arith) (taken_from ks i c) q') in
        let w : under row_key k b ≡ b = whole-under row_key k b (all_map (λ y. row_key y ≡ row_key x) (λ y. row_key y ≡ k) (λ y h. h ∙ g) b p) in
        let v : under row_key k (close b) ≡ close b = whole-under row_key k (close b) (all_map (λ y. row_key y ≡ row_key x) (λ y. row_key y ≡ k) (λ y h. h ∙ g) (close b) p') in
        let a' : among k ks ≡ true = rw g at a in
        rw (e, a', n, m, w, v, append-nil b, t) (sym (append-nil (close b))))
        (λ e.
        let g : row_key x ≡ k → ⊥ = eqb-false (row_key x) k e in
        rw (e, none-under row_key k b (all_map (λ y. row_key y ≡ row_key x) (λ y. row_key y ≡ k → ⊥) (λ y h z. g (sym h ∙ z)) b p), none-under row_key k (close b) (all_map (λ y. row_key y ≡ row_key x) (λ y. row_key y ≡ k → ⊥) (λ y h z. g (sym h ∙ z)) (close b) p'), taken-under k ks c r))))
