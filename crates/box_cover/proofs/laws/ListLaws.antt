-- Lists under two tests, lists that come in and lists that one element is taken out of. Assumes nothing.
use Rattle.basics.specs.Words.{ℕ, zero, suc, ◌+◌, ◌<◌, ◌≤◌, ◌≡◌, refl, sym, ◌∙◌, ap, ap₂, Bool, true, false, List, [], ◌∷◌, ◌++◌, map, length, get_or}
use Rattle.basics.specs.Words.{length-append, eqb, not-suc-le-zero, le_of_suc-le-suc, suc_inj, arith, ne_eqb, eqb-true}
use Rattle.basics.specs.Meaning.Refusals.{pick}
use Rattle.cells.specs.Inner.Rising.{Above, Rising}
use Rattle.storage.specs.Meaning.Keyed.{All, filter, under, append_all, last, front, close, take_out}
use Rattle.storage.specs.Inner.Keyed.{Sorted}
use Rattle.storage.proofs.laws.FilterLaws.{by_test, all_append, all_front, all_back, filter-append, filter_none}
use Rattle.storage.proofs.laws.KeyedLaws.{sorted_filter, sorted_determined}
use Rattle.storage.proofs.laws.AppendLaws.{sorted-append_all, under-append_all}
use Rattle.storage.proofs.laws.TakeOutLaws.{has, front-last, all_close}

-- ---- two tests
module _ {A : Type 0} (p q : A → Bool) where
  pub filter_swap : (l : List A) → filter p (filter q l) ≡ filter q (filter p l)
  filter_swap [] = refl
  filter_swap (x ∷ l) =
      by_test (p x)
      (λ e. by_test (q x)
      (λ f. rw (f, e, f) (ap (λ m. x ∷ m) (filter_swap l)))
      (λ f. rw (f, e, f) (filter_swap l)))
      (λ e. by_test (q x)
      (λ f. rw (f, e) (filter_swap l))
      (λ f. rw (f, e) (filter_swap l)))

  -- whether some element passes both
  pub has_filter : (l : List A) → has p (filter q l) ≡ has q (filter p l)
  has_filter [] = refl
  has_filter (x ∷ l) =
      by_test (p x)
      (λ e. by_test (q x)
      (λ f. rw (f, e, f))
      (λ f. rw (f, e, f) (has_filter l)))
      (λ e. by_test (q x)
      (λ f. rw (f, e) (has_filter l))
      (λ f. rw (f, e) (has_filter l)))

pub has_map : {A B : Type 0} (test : B → Bool) (f : A → B) (l : List A) → has test (map f l) ≡ has (λ x. test (f x)) l
has_map test f [] = refl
has_map test f (x ∷ l) = ap (pick (test (f x)) true) (has_map test f l)

pub filter_empty : {A : Type 0} (test : A → Bool) (l : List A) → length (filter test l) ≤ 0 → All (λ x. test x ≡ false) l
filter_empty test [] h = tt
filter_empty test (x ∷ l) h =
    by_test (test x)
    (λ e. absurd (not-suc-le-zero (rw e at h)))
    (λ e. (e, filter_empty test l (rw e at h)))

-- ---- what a test lets through of lists that come in
pub filter-append_all : {A : Type 0} (key : A → ℕ) (test : A → Bool) (l es : List A) → Sorted key l → filter test (append_all key l es) ≡ append_all key (filter test l) (filter test es)
filter-append_all {A} key test l es s =
    sorted_determined key (filter test (append_all key l es)) (append_all key (filter test l) (filter test es))
    (sorted_filter key test (append_all key l es) (sorted-append_all key l es s))
    (sorted-append_all key (filter test l) (filter test es) (sorted_filter key test l s))
    (λ k.
    filter_swap (λ x. eqb (key x) k) test (append_all key l es)
    ∙ ap (filter test) (under-append_all key k l es)
    ∙ filter-append test (under key k l) (under key k es)
    ∙ ap₂ {C = List A} (λ (a b : List A). a ++ b) (filter_swap test (λ x. eqb (key x) k) l) (filter_swap test (λ x. eqb (key x) k) es)
    ∙ sym (under-append_all key k (filter test l) (filter test es)))

-- ---- what a test lets through of a list that one was taken out of
module _ {A : Type 0} (test : A → Bool) where
  -- of those that would be taken out, none is left, if there was one at most
  pub filter-taken : (l : List A) → length (filter test l) ≤ 1 → filter test (take_out test l) ≡ []
  filter-taken [] h = refl
  filter-taken (x ∷ l) h =
      by_test (test x)
      (λ e. let n : length (filter test l) ≤ 0 = omega (arith, rw e at h) in rw e (filter_none test (close l) (all_close (λ y. test y ≡ false) l (filter_empty test l n))))
      (λ e. rw (e, e) (filter-taken l (rw e at h)))

  -- of the others, as many as before
  pub length-filter-close : (l : List A) → length (filter test (close l)) ≡ length (filter test l)
  length-filter-close [] = refl
  length-filter-close (x ∷ l) =
      ap length (filter-append test (last x l ∷ []) (front x l))
      ∙ length-append (filter test (last x l ∷ [])) (filter test (front x l))
      ∙ turn (length (filter test (last x l ∷ []))) (length (filter test (front x l)))
      ∙ sym (ap (λ m. length (filter test m)) (sym (front-last x l)) ∙ ap length (filter-append test (front x l) (last x l ∷ [])) ∙ length-append (filter test (front x l)) (filter test (last x l ∷ [])))
    where
      turn : (m n : ℕ) → m + n ≡ n + m
      turn m n = omega arith

  pub length-filter-taken : (out : A → Bool) → ((x : A) → out x ≡ true → test x ≡ false) → (l : List A) → length (filter test (take_out out l)) ≡ length (filter test l)
  length-filter-taken out f [] = refl
  length-filter-taken out f (x ∷ l) =
      by_test (out x)
      (λ e. rw (e, f x e) (length-filter-close l))
      (λ e. by_test (test x)
      (λ g. rw (e, g) (ap suc (length-filter-taken out f l)))
      (λ g. rw (e, g) (length-filter-taken out f l)))

  -- those in front that would not be taken out stay
  pub take_out-past : (u l : List A) → All (λ x. test x ≡ false) u → take_out test (u ++ l) ≡ u ++ take_out test l
  take_out-past [] l a = refl
  take_out-past (x ∷ u) l a = rw a.0 (ap (λ m. x ∷ m) (take_out-past u l a.1))

  -- an element that passes both
  pub has_both : (other : A → Bool) (d : A) (l : List A) (n : ℕ) → n < length l → test (get_or l n d) ≡ true → other (get_or l n d) ≡ true → has test (filter other l) ≡ true
  has_both other d [] n h e f = absurd (not-suc-le-zero h)
  has_both other d (x ∷ l) zero h e f = rw (f, e)
  has_both other d (x ∷ l) (suc n) h e f =
      by_test (other x)
      (λ g. rw g (by_test (test x) (λ k. rw k) (λ k. rw k (has_both other d l n (le_of_suc-le-suc h) e f))))
      (λ g. rw g (has_both other d l n (le_of_suc-le-suc h) e f))

-- ---- parts of a sorted list
module _ {A : Type 0} (key : A → ℕ) where
  pub sorted_back : (u l : List A) → Sorted key (u ++ l) → Sorted key l
  sorted_back [] l s = s
  sorted_back (x ∷ u) l s = sorted_back u l s.1

  -- its second part in the place of one with keys as great
  pub sorted-front_of : (u l m : List A) → Sorted key (u ++ l) → Sorted key m → ((k : ℕ) → All (λ x. k ≤ key x) l → All (λ x. k ≤ key x) m) → Sorted key (u ++ m)
  sorted-front_of [] l m s t f = t
  sorted-front_of (x ∷ u) l m s t f =
      (all_append (λ y. key x ≤ key y) u m (all_front (λ y. key x ≤ key y) u l s.0) (f (key x) (all_back (λ y. key x ≤ key y) u l s.0)), sorted-front_of u l m s.1 t f)

-- ---- numbers
-- all the same, and as many
pub alike : (k : ℕ) (a b : List ℕ) → All (λ j. j ≡ k) a → All (λ j. j ≡ k) b → length a ≡ length b → a ≡ b
alike k [] [] p q e = refl
alike k [] (y ∷ b) p q e = absurd (omega arith)
alike k (x ∷ a) [] p q e = absurd (omega arith)
alike k (x ∷ a) (y ∷ b) p q e = ap₂ ◌∷◌ (p.0 ∙ sym q.0) (alike k a b p.1 q.1 (suc_inj e))

-- of numbers that rise none comes twice
above-none : (j k : ℕ) (ks : List ℕ) → k ≤ j → Above j ks → All (λ x. eqb x k ≡ false) ks
above-none j k [] h a = tt
above-none j k (x ∷ ks) h a = (ne_eqb x k (λ e. omega (arith, a.0)), above-none j k ks h a.1)

pub rising-out : (k : ℕ) (ks : List ℕ) → Above k ks → All (λ x. eqb x k ≡ false) ks
rising-out k ks a = above-none k k ks (omega arith) a

pub rising-once : (k : ℕ) (ks : List ℕ) → Rising ks → length (filter (λ x. eqb x k) ks) ≤ 1
rising-once k [] r = omega arith
rising-once k (x ∷ ks) r =
    by_test (eqb x k)
    (λ e. rw (e, filter_none (λ y. eqb y k) ks (above-none x k ks (omega (arith, eqb-true x k e)) r.0)) (omega arith))
    (λ e. rw e (rising-once k ks r.1))
