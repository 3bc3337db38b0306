-- Laws of sums over lists: no order matters, and how often a name stands in a list. Assumes nothing.
use Rattle.basics.specs.Words.{ℕ, ◌+◌, ◌≤◌, ◌≡◌, refl, sym, ◌∙◌, ap, Bool, List, [], ◌∷◌, ◌++◌, inl, inr, length, eqb, not-suc-le-zero, arith, eqb-true, eq-eqb}
use Rattle.basics.specs.Words.{ne_eqb, lt-ltb, le-ltb}
use Rattle.basics.specs.Inner.Counting.{one}
use Rattle.basics.specs.Meaning.Refusals.{pick}
use Rattle.storage.specs.Meaning.Keyed.{All, filter, under, below, above, on_list, append1, append_all, last, front, close}
use Rattle.storage.proofs.laws.FilterLaws.{by_test, by_order, all_map}
use Rattle.storage.proofs.laws.TakeOutLaws.{front-last}
use Rattle.point_tables.proofs.laws.Members.{Some, Pairs}
use Rattle.point_maintain.proofs.laws.Totals.{total, times, Alone}

module _ {A : Type 0} where
  pub total-append : (m : A → ℕ) (a b : List A) → total m (a ++ b) ≡ total m a + total m b
  total-append m [] b = omega arith
  total-append m (x ∷ a) b = omega (arith, total-append m a b)

  pub total-close : (m : A → ℕ) (l : List A) → total m (close l) ≡ total m l
  total-close m [] = refl
  total-close m (x ∷ l) = omega (arith, total-append m (front x l) (last x l ∷ []), ap (total m) (front-last x l))

  pub total-same : (m n : A → ℕ) (l : List A) → All (λ x. m x ≡ n x) l → total m l ≡ total n l
  total-same m n [] a = refl
  total-same m n (x ∷ l) a = omega (arith, a.0, total-same m n l a.1)

  pub total-none : (m : A → ℕ) (l : List A) → All (λ x. m x ≡ 0) l → total m l ≡ 0
  total-none m [] a = refl
  total-none m (x ∷ l) a = omega (arith, a.0, total-none m l a.1)

  pub total_plus : (m n : A → ℕ) (l : List A) → total (λ x. m x + n x) l ≡ total m l + total n l
  total_plus m n [] = refl
  total_plus m n (x ∷ l) = omega (arith, total_plus m n l)

  pub total-length : (l : List A) → total (λ x. 1) l ≡ length l
  total-length [] = refl
  total-length (x ∷ l) = omega (arith, total-length l)

  pub total-filter : (m : A → ℕ) (test : A → Bool) (l : List A) → total m (filter test l) ≡ total (λ x. pick (test x) (m x) 0) l
  total-filter m test [] = refl
  total-filter m test (x ∷ l) =
      by_test (test x)
      (λ e. rw e (ap (λ (k : ℕ). m x + k) (total-filter m test l)))
      (λ e. rw e (omega (arith, total-filter m test l)))

  pub filter-most : (m : A → ℕ) (test : A → Bool) (l : List A) → total m (filter test l) ≤ total m l
  filter-most m test [] = omega arith
  filter-most m test (x ∷ l) =
      by_test (test x)
      (λ e. rw e (omega (arith, filter-most m test l)))
      (λ e. rw e (omega (arith, filter-most m test l)))

  -- ---- lists kept by keys
  module _ (key : A → ℕ) (m : A → ℕ) where
    total_parts : (k : ℕ) (l : List A) → total m (below key k l) + (total m (under key k l) + total m (above key k l)) ≡ total m l
    total_parts k [] = refl
    total_parts k (x ∷ l) =
        by_order (key x) k
        (λ h. rw (lt-ltb (key x) k h, ne_eqb (key x) k (λ e. omega arith), le-ltb k (key x) (omega arith)) (omega (arith, total_parts k l)))
        (λ h. rw (le-ltb (key x) k (omega arith), eq-eqb (key x) k h, le-ltb k (key x) (omega arith)) (omega (arith, total_parts k l)))
        (λ h. rw (le-ltb (key x) k (omega arith), ne_eqb (key x) k (λ e. omega arith), lt-ltb k (key x) h) (omega (arith, total_parts k l)))

    total-append1 : (l : List A) (e : A) → total m (append1 key l e) ≡ total m l + m e
    unfolding append1 on_list
    total-append1 l e =
        let k = key e in
        simp total-append (omega (arith, total_parts k l))

    pub total-append_all : (l es : List A) → total m (append_all key l es) ≡ total m l + total m es
    unfolding append_all
    total-append_all l [] = omega arith
    total-append_all l (e ∷ es) = total-append_all (append1 key l e) es ∙ omega (arith, total-append1 l e)

-- ---- names
module _ {A : Type 0} (name : A → ℕ) where
  times-here : (i : ℕ) (x : A) → name x ≡ i → one (eqb (name x) i) ≡ 1
  times-here i x e = rw (eq-eqb (name x) i e)

  -- behind an element there is no other of its name, and those behind it are alone too
  pub alone_tail : (x : A) (l : List A) → Alone name (x ∷ l) → Alone name l
  alone_tail x l a i = omega (arith, a i)

  pub alone_head : (x : A) (l : List A) → Alone name (x ∷ l) → times name (name x) l ≡ 0
  alone_head x l a = omega (arith, a (name x), times-here (name x) x refl)

  pub times_none : (i : ℕ) (l : List A) → times name i l ≡ 0 → All (λ x. name x ≡ i → ⊥) l
  times_none i [] e = tt
  times_none i (x ∷ l) e = ((λ q. omega (arith, times-here i x q)), times_none i l (omega arith))

  -- ---- a name that some element has, and elements with names of their own
  pub times-some : (i : ℕ) (l : List A) → Some (λ x. name x ≡ i) l → 1 ≤ times name i l
  times-some i [] s = absurd s
  times-some i (x ∷ l) (inl e) = omega (arith, times-here i x e)
  times-some i (x ∷ l) (inr s) = omega (arith, times-some i l s)

  pub some-times : (i : ℕ) (l : List A) → 1 ≤ times name i l → Some (λ x. name x ≡ i) l
  some-times i [] h = not-suc-le-zero h
  some-times i (x ∷ l) h =
      by_test (eqb (name x) i)
      (λ e. inl (eqb-true (name x) i e))
      (λ e. inr (some-times i l (omega (arith, rw e at h))))

  pub pairs_alone : (l : List A) → Pairs (λ x y. name x ≡ name y → ⊥) l → Alone name l
  pairs_alone [] p i = omega arith
  pairs_alone (x ∷ l) p i =
      by_test (eqb (name x) i)
      (λ e. rw e (omega (arith, total-none _ l (all_map _ (λ y. one (eqb (name y) i) ≡ 0) (λ y n. ap one (ne_eqb (name y) i (λ q. n (eqb-true (name x) i e ∙ sym q)))) l p.0))))
      (λ e. rw e (omega (arith, pairs_alone l p.1 i)))

  pub alone_pairs : (l : List A) → Alone name l → Pairs (λ x y. name x ≡ name y → ⊥) l
  alone_pairs [] a = tt
  alone_pairs (x ∷ l) a = (all_map _ (λ y. name x ≡ name y → ⊥) (λ y n q. n (sym q)) l (times_none (name x) l (alone_head x l a)), alone_pairs l (alone_tail x l a))
