-- Laws of taking out: the first element that passes goes, and the last one moves into its gap. Assumes nothing.
use Rattle.basics.specs.Words.{ℕ, zero, suc, ◌+◌, ◌<◌, ◌≡◌, refl, sym, ap, Bool, true, false, List, [], ◌∷◌, ◌++◌, length, get_or, not-suc-le-zero}
use Rattle.basics.specs.Words.{le_of_suc-le-suc, arith}
use Rattle.basics.specs.Meaning.Refusals.{pick}
use Rattle.basics.proofs.laws.Says.{apart}
use Rattle.storage.specs.Meaning.Keyed.{All, under, on_list, last, front, close, take_out}
use Rattle.storage.specs.Inner.Keyed.{Sorted}
use Rattle.storage.proofs.laws.FilterLaws.{by_test}
use Rattle.storage.proofs.laws.KeyedLaws.{all_under, under-on_list, under_other, sorted-on_list, length-on_list}

-- whether some element passes
abbrev pub has : {A : Type 0} → (A → Bool) → List A → Bool
has test [] = false
has test (x ∷ l) = pick (test x) true (has test l)

module _ {A : Type 0} where
  -- ---- the last element and those before it
  pub front-last : (x : A) (l : List A) → front x l ++ (last x l ∷ []) ≡ x ∷ l
  front-last x [] = refl
  front-last x (y ∷ l) = ap (λ m. x ∷ m) (front-last y l)

  pub last_snoc : (x : A) (l : List A) (y : A) → last x (l ++ (y ∷ [])) ≡ y
  last_snoc x [] y = refl
  last_snoc x (z ∷ l) y = last_snoc z l y

  pub front_snoc : (x : A) (l : List A) (y : A) → front x (l ++ (y ∷ [])) ≡ x ∷ l
  front_snoc x [] y = refl
  front_snoc x (z ∷ l) y = ap (λ m. x ∷ m) (front_snoc z l y)

  pub length_front : (x : A) (l : List A) → length (front x l) ≡ length l
  length_front x [] = refl
  length_front x (y ∷ l) = ap suc (length_front y l)

  pub length-close : (l : List A) → length (close l) ≡ length l
  length-close [] = refl
  length-close (x ∷ l) = ap suc (length_front x l)

  -- what stands behind a gap: the last of it comes first
  pub close_snoc : (l : List A) (y : A) → close (l ++ (y ∷ [])) ≡ y ∷ l
  close_snoc [] y = refl
  close_snoc (x ∷ l) y = rw (last_snoc x l y, front_snoc x l y)

  all_last : (P : A → Type 0) (x : A) (l : List A) → P x → All P l → P (last x l)
  all_last P x [] p a = p
  all_last P x (y ∷ l) p a = all_last P y l a.0 a.1

  all_front_of : (P : A → Type 0) (x : A) (l : List A) → P x → All P l → All P (front x l)
  all_front_of P x [] p a = tt
  all_front_of P x (y ∷ l) p a = (p, all_front_of P y l a.0 a.1)

  pub all_close : (P : A → Type 0) (l : List A) → All P l → All P (close l)
  all_close P [] a = tt
  all_close P (x ∷ l) a = (all_last P x l a.0 a.1, all_front_of P x l a.0 a.1)

  -- ---- taking out
  pub all_take_out : (P : A → Type 0) (test : A → Bool) (l : List A) → All P l → All P (take_out test l)
  all_take_out P test [] a = tt
  all_take_out P test (x ∷ l) a =
      by_test (test x)
      (λ e. rw e (all_close P l a.1))
      (λ e. rw e (a.0, all_take_out P test l a.1))

  module _ (test : A → Bool) where
    -- the element at a place, of which no earlier one passes
    pub take_out_at : (a : List A) (x : A) (b : List A) → All (λ y. test y ≡ false) a → test x ≡ true → take_out test (a ++ (x ∷ b)) ≡ a ++ close b
    take_out_at [] x b n e = rw e
    take_out_at (y ∷ a) x b n e = rw n.0 (ap (λ m. y ∷ m) (take_out_at a x b n.1 e))

    pub take_out-none : (l : List A) → has test l ≡ false → take_out test l ≡ l
    take_out-none [] n = refl
    take_out-none (x ∷ l) n =
        by_test (test x)
        (λ e. absurd (apart (sym (rw e at n))))
        (λ e. rw e (ap (λ m. x ∷ m) (take_out-none l (rw e at n))))

    pub length-take_out : (l : List A) → has test l ≡ true → length (take_out test l) + 1 ≡ length l
    length-take_out [] h = absurd (apart h)
    length-take_out (x ∷ l) h =
        by_test (test x)
        (λ e. rw e (omega (arith, length-close l)))
        (λ e. rw e (omega (arith, length-take_out l (rw e at h))))

    pub has_at : (d : A) (l : List A) (i : ℕ) → i < length l → test (get_or l i d) ≡ true → has test l ≡ true
    has_at d [] i h e = absurd (not-suc-le-zero h)
    has_at d (x ∷ l) zero h e = rw e
    has_at d (x ∷ l) (suc i) h e =
        by_test (test x)
        (λ q. rw q)
        (λ q. rw q (has_at d l i (le_of_suc-le-suc h) e))

    pub has_none : (l : List A) → All (λ x. test x ≡ false) l → has test l ≡ false
    has_none [] a = refl
    has_none (x ∷ l) a = rw a.0 (has_none l a.1)

  -- ---- taking out of a key's list
  module _ (key : A → ℕ) (k : ℕ) (test : A → Bool) (l : List A) where
    pub own-take_out : All (λ x. key x ≡ k) (take_out test (under key k l))
    own-take_out = all_take_out (λ x. key x ≡ k) test (under key k l) (all_under key k l)

    pub sorted-take_out : Sorted key l → Sorted key (on_list key k (take_out test) l)
    sorted-take_out s = sorted-on_list key k (take_out test) l own-take_out s

    pub under-take_out : under key k (on_list key k (take_out test) l) ≡ take_out test (under key k l)
    under-take_out = under-on_list key k (take_out test) l own-take_out

    pub under-take_out_other : (j : ℕ) → (j ≡ k → ⊥) → under key j (on_list key k (take_out test) l) ≡ under key j l
    under-take_out_other j n = under_other key k (take_out test) l own-take_out j n

    pub length-on_list-take_out : has test (under key k l) ≡ true → length (on_list key k (take_out test) l) + 1 ≡ length l
    length-on_list-take_out h = omega (arith, length-on_list key k (take_out test) l, length-take_out test (under key k l) h)
