-- A key cuts a sorted list by place: below the key's first place the keys are less, and from it on they are not. Assumes nothing.
use Rattle.basics.specs.Words.{ℕ, zero, suc, ◌<◌, ◌≤◌, ◌≡◌, refl, sym, ◌∙◌, ap, List, [], ◌∷◌, ◌++◌, append_assoc, append-nil, length, get_or, take, drop}
use Rattle.basics.specs.Words.{take_at, drop_at, length-take-le, get_or-take, ltb, not-suc-le-zero, le_of_suc-le-suc, arith, lt-ltb, le-ltb}
use Rattle.storage.specs.Inner.Keyed.{Sorted}
use Rattle.storage.specs.Meaning.Keyed.{below, under, above}
use Rattle.storage.specs.Inner.Places.{end_of}
use Rattle.storage.proofs.laws.FilterLaws.{by_test, all_map, all_append, all_at, filter-append, filter-length}
use Rattle.storage.proofs.laws.KeyedLaws.{all_below, all_under, all_above, none_below, whole_below, sorted_parts}

module _ {A : Type 0} (key : A → ℕ) (k : ℕ) where
  pub low : (d : A) (l : List A) → Sorted key l → (i : ℕ) → i < length l → key (get_or l i d) < k → i < length (below key k l)
  low d [] s i h b = absurd (not-suc-le-zero h)
  low d (x ∷ l) s zero h b = rw (lt-ltb (key x) k b) (omega arith)
  low d (x ∷ l) s (suc i) h b =
      let b' : key x < k = omega (arith, all_at (λ y. key x ≤ key y) d l i (le_of_suc-le-suc h) s.0) in
      rw (lt-ltb (key x) k b') (omega (arith, low d l s.1 i (le_of_suc-le-suc h) b))

  pub high : (d : A) (l : List A) → Sorted key l → (i : ℕ) → i < length l → k ≤ key (get_or l i d) → length (below key k l) ≤ i
  high d [] s i h b = absurd (not-suc-le-zero h)
  high d (x ∷ l) s zero h b = rw (le-ltb (key x) k b, none_below key k l (all_map _ _ (λ y q. omega (arith, b, q)) l s.0)) (omega arith)
  high d (x ∷ l) s (suc i) h b =
      let r = high d l s.1 i (le_of_suc-le-suc h) b in
      by_test (ltb (key x) k) (λ e. rw e (omega arith)) (λ e. rw e (omega arith))

  module _ (l : List A) (s : Sorted key l) where
    -- what is not above the key is below the next
    pub upto : below key (suc k) l ≡ below key k l ++ under key k l
    upto =
        ap (below key (suc k)) (sorted_parts key k l s ∙ sym (append_assoc (below key k l) (under key k l) (above key k l)))
        ∙ filter-append (λ x. ltb (key x) (suc k)) (below key k l ++ under key k l) (above key k l)
        ∙ rw (
          whole_below key (suc k) (below key k l ++ under key k l)
              (all_append (λ x. key x < suc k) (below key k l) (under key k l) (all_map _ _ (λ x h. omega (arith, h)) (below key k l) (all_below key k l)) (all_map _ _ (λ x h. omega (arith, h)) (under key k l) (all_under key k l))),
          none_below key (suc k) (above key k l) (all_above key k l),
        )
        (append-nil (below key k l ++ under key k l))

    -- the parts, by place
    pub take_end : take (end_of key k l) l ≡ below key k l ++ under key k l
    take_end =
        ap (take (end_of key k l)) (sorted_parts key k l s ∙ sym (append_assoc (below key k l) (under key k l) (above key k l)))
        ∙ take_at (below key k l ++ under key k l) (above key k l) (end_of key k l) refl

    pub drop_end : drop (end_of key k l) l ≡ above key k l
    drop_end =
        ap (drop (end_of key k l)) (sorted_parts key k l s ∙ sym (append_assoc (below key k l) (under key k l) (above key k l)))
        ∙ drop_at (below key k l ++ under key k l) (above key k l) (end_of key k l) refl

  -- ---- the same of the first n of a table
  module _ (d : A) (t : List A) (n : ℕ) (room : n ≤ length t) (s : Sorted key (take n t)) where
    pub low_of : (i : ℕ) → i < n → key (get_or t i d) < k → i < length (below key k (take n t))
    low_of i h b = low d (take n t) s i (rw (length-take-le n t room) h) (rw (get_or-take n t i d h) b)

    pub high_of : (i : ℕ) → i < n → k ≤ key (get_or t i d) → length (below key k (take n t)) ≤ i
    high_of i h b = high d (take n t) s i (rw (length-take-le n t room) h) (rw (get_or-take n t i d h) b)

    pub most_of : length (below key k (take n t)) ≤ n
    most_of = omega (arith, filter-length (λ x. ltb (key x) k) (take n t), length-take-le n t room)

    pub end_of_lem : end_of key k (take n t) ≡ length (below key (suc k) (take n t))
    end_of_lem = ap length (sym (upto (take n t) s))
