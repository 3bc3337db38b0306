-- The walk of a range is the part of the sorted pool whose keys lie in the range's window, in the pool's own order; so a query is a scan
-- of the pool, if its test passes only in the range. Assumes nothing.
use Rattle.basics.specs.Words.{ℕ, ◌≤◌, ◌<◌, ◌≡◌, refl, sym, ◌∙◌, ap, Bool, true, false, List, [], ◌∷◌, append-nil, map, eqb, arith, eqb-true, eqb-false, ne_eqb}
use Rattle.basics.specs.Meaning.Refusals.{pick}
use Rattle.basics.proofs.laws.Says.{apart}
use Rattle.cells.specs.declared.Cell.{Cell}
use Rattle.cells.proofs.laws.Numbers.{Fits}
use Rattle.cells.specs.Meaning.Range.{range_cells}
use Rattle.cells.specs.Inner.Rising.{Above, Rising}
use Rattle.cells.specs.Meaning.Key.{key_of}
use Rattle.cells.proofs.laws.RangeKeyLaws.{range_rising}
use Rattle.storage.specs.Meaning.Keyed.{All, filter, under}
use Rattle.storage.specs.Inner.Keyed.{Sorted}
use Rattle.storage.specs.Meaning.Walk.{lists_of, walked}
use Rattle.storage.proofs.laws.FilterLaws.{by_test, all_map, all_any, all_append, filter-append, filter-within, filter_same, filter_passes}
use Rattle.storage.proofs.laws.KeyedLaws.{all_under, whole-under, none-under, sorted_flat, sorted_join, sorted_filter, sorted_determined}
use Rattle.storage.proofs.laws.TakeOutLaws.{has}
use Rattle.storage.specs.Inner.Window.{window_of}
use Rattle.storage.proofs.laws.WindowLaws.{key_in, key_window}

-- what is above all the keys is none of them
has_above : (j : ℕ) (cs : List Cell) → Above j (map key_of cs) → has (λ c. eqb (key_of c) j) cs ≡ false
has_above j [] a = refl
has_above j (c ∷ cs) a = let h : j < key_of c = a.0 in rw (ne_eqb (key_of c) j (λ e. omega arith)) (has_above j cs a.1)

module _ {A : Type 0} (key : A → ℕ) where
  -- ---- the lists of cells whose keys rise
  lists-above : (k : ℕ) (cs : List Cell) (pool : List A) → Above k (map key_of cs) → All (λ x. k < key x) (lists_of key cs pool)
  lists-above k [] pool a = tt
  lists-above k (c ∷ cs) pool a =
      let h : k < key_of c = a.0 in
      all_append (λ x. k < key x) (under key (key_of c) pool) (lists_of key cs pool) (all_map (λ x. key x ≡ key_of c) (λ x. k < key x) (λ x e. omega arith) (under key (key_of c) pool) (all_under key (key_of c) pool)) (lists-above k cs pool a.1)

  lists-sorted : (cs : List Cell) (pool : List A) → Rising (map key_of cs) → Sorted key (lists_of key cs pool)
  lists-sorted [] pool r = tt
  lists-sorted (c ∷ cs) pool r =
      sorted_join key (key_of c) (under key (key_of c) pool) (lists_of key cs pool) (sorted_flat key (key_of c) (under key (key_of c) pool) (all_under key (key_of c) pool)) (lists-sorted cs pool r.1)
      (all_map (λ x. key x ≡ key_of c) (λ x. key x ≤ key_of c) (λ x e. omega arith) (under key (key_of c) pool) (all_under key (key_of c) pool))
      (all_map (λ x. key_of c < key x) (λ x. key_of c ≤ key x) (λ x e. omega arith) (lists_of key cs pool) (lists-above (key_of c) cs pool r.0))

  lists-under : (j : ℕ) (cs : List Cell) (pool : List A) → Rising (map key_of cs)
      → under key j (lists_of key cs pool) ≡ pick (has (λ c. eqb (key_of c) j) cs) (under key j pool) []
  lists-under j [] pool r = refl
  lists-under j (c ∷ cs) pool r =
      filter-append (λ x. eqb (key x) j) (under key (key_of c) pool) (lists_of key cs pool)
      ∙ rw (lists-under j cs pool r.1)
      (by_test (eqb (key_of c) j)
      (λ e.
      let q : key_of c ≡ j = eqb-true (key_of c) j e in
      rw (e, has_above j cs (rw q at r.0), q, whole-under key j (under key j pool) (all_under key j pool)) (append-nil (under key j pool)))
      (λ e.
      let n : key_of c ≡ j → ⊥ = eqb-false (key_of c) j e in
      rw (e, none-under key j (under key (key_of c) pool) (all_map (λ x. key x ≡ key_of c) (λ x. key x ≡ j → ⊥) (λ x p i. n (sym p ∙ i)) (under key (key_of c) pool) (all_under key (key_of c) pool)))))

  filter-under : (j : ℕ) (test : ℕ → Bool) (pool : List A) → under key j (filter (λ x. test (key x)) pool) ≡ pick (test j) (under key j pool) []
  filter-under j test pool =
      by_test (test j)
      (λ e. rw e (filter-within (λ x. eqb (key x) j) (λ x. test (key x)) pool (all_any (λ x. eqb (key x) j ≡ true → test (key x) ≡ true) (λ x i. ap test (eqb-true (key x) j i) ∙ e) pool)))
      (λ e.
      rw e
      (none-under key j (filter (λ x. test (key x)) pool)
      (all_map (λ x. test (key x) ≡ true) (λ x. key x ≡ j → ⊥) (λ x p i. apart (sym e ∙ ap test (sym i) ∙ p)) (filter (λ x. test (key x)) pool) (filter_passes (λ x. test (key x)) pool))))

  lists-filter : (cs : List Cell) (pool : List A) → Rising (map key_of cs) → Sorted key pool
      → lists_of key cs pool ≡ filter (λ x. has (λ c. eqb (key_of c) (key x)) cs) pool
  lists-filter cs pool r s =
      sorted_determined key (lists_of key cs pool) (filter (λ x. has (λ c. eqb (key_of c) (key x)) cs) pool) (lists-sorted cs pool r) (sorted_filter key (λ x. has (λ c. eqb (key_of c) (key x)) cs) pool s)
      (λ j. lists-under j cs pool r ∙ sym (filter-under j (λ k. has (λ c. eqb (key_of c) k) cs) pool))

  -- ---- the walk of a range
  module _ (a b : Cell) (fa : Fits a) (fb : Fits b) (pool : List A) (s : Sorted key pool) where
    pub walked_keys : walked key a b pool ≡ filter (λ x. key_in a b (key x)) pool
    unfolding walked
    walked_keys = lists-filter (range_cells a b) pool (range_rising a b fa fb) s

    pub walked_window : All (λ x. key x < 18446744073709551616) pool → walked key a b pool ≡ filter (λ x. window_of a b (key x)) pool
    walked_window small =
        walked_keys
        ∙ filter_same (λ x. key_in a b (key x)) (λ x. window_of a b (key x)) pool
        (all_map (λ x. key x < 18446744073709551616) (λ x. key_in a b (key x) ≡ window_of a b (key x)) (λ x h. key_window a b fa fb (key x) h) pool small)

    -- a query whose test passes only in the range is a scan of the pool
    pub query_is_scan : All (λ x. key x < 18446744073709551616) pool → (test : A → Bool) → All (λ x. test x ≡ true → window_of a b (key x) ≡ true) pool
        → filter test (walked key a b pool) ≡ filter test pool
    query_is_scan small test near = ap (filter test) (walked_window small) ∙ filter-within test (λ x. window_of a b (key x)) pool near
