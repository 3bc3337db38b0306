-- Laws of `All` and of `filter`, and cases by a test and by an order. Assumes nothing.
use Rattle.basics.specs.Words.{ℕ, zero, suc, ◌<◌, ◌≤◌, ◌≡◌, refl, sym, ◌∙◌, ap, Bool, true, false, ◌&&◌, List, [], ◌∷◌, ◌++◌, map, length, get_or, ltb, eqb}
use Rattle.basics.specs.Words.{not-suc-le-zero, le_of_suc-le-suc, arith, ltb-true, ltb-false, eqb-true, eqb-false}
use Rattle.basics.proofs.laws.Says.{apart}
use Rattle.storage.specs.Meaning.Keyed.{All, filter}

-- ---- cases
pub by_test : {G : Type 0} (b : Bool) → (b ≡ true → G) → (b ≡ false → G) → G
by_test true f g = f refl
by_test false f g = g refl

pub by_order : {G : Type 0} (a b : ℕ) → (a < b → G) → (a ≡ b → G) → (b < a → G) → G
by_order a b f g h =
    by_test (ltb a b) (λ e. f (ltb-true a b e))
    (λ e. by_test (eqb a b) (λ q. g (eqb-true a b q)) (λ q. let n : a ≡ b → ⊥ = eqb-false a b q in h (omega (arith, ltb-false a b e))))

module _ {A : Type 0} where
  -- ---- facts of all elements
  pub all_map : (P Q : A → Type 0) → ((x : A) → P x → Q x) → (l : List A) → All P l → All Q l
  all_map P Q f [] a = tt
  all_map P Q f (x ∷ l) a = (f x a.0, all_map P Q f l a.1)

  pub all_both : (P Q R : A → Type 0) → ((x : A) → P x → Q x → R x) → (l : List A) → All P l → All Q l → All R l
  all_both P Q R f [] a b = tt
  all_both P Q R f (x ∷ l) a b = (f x a.0 b.0, all_both P Q R f l a.1 b.1)

  pub all_any : (P : A → Type 0) → ((x : A) → P x) → (l : List A) → All P l
  all_any P f [] = tt
  all_any P f (x ∷ l) = (f x, all_any P f l)

  pub all_append : (P : A → Type 0) (a b : List A) → All P a → All P b → All P (a ++ b)
  all_append P [] b p q = q
  all_append P (x ∷ a) b p q = (p.0, all_append P a b p.1 q)

  pub all_front : (P : A → Type 0) (a b : List A) → All P (a ++ b) → All P a
  all_front P [] b p = tt
  all_front P (x ∷ a) b p = (p.0, all_front P a b p.1)

  pub all_back : (P : A → Type 0) (a b : List A) → All P (a ++ b) → All P b
  all_back P [] b p = p
  all_back P (x ∷ a) b p = all_back P a b p.1

  pub all_over : {B : Type 0} (P : B → Type 0) (f : A → B) (l : List A) → All (λ x. P (f x)) l → All P (map f l)
  all_over P f [] a = tt
  all_over P f (x ∷ l) a = (a.0, all_over P f l a.1)

  -- by places, and back
  pub all_at : (P : A → Type 0) (d : A) (l : List A) (i : ℕ) → i < length l → All P l → P (get_or l i d)
  all_at P d [] i h a = absurd (not-suc-le-zero h)
  all_at P d (x ∷ l) zero h a = a.0
  all_at P d (x ∷ l) (suc i) h a = all_at P d l i (le_of_suc-le-suc h) a.1

  pub all_of : (P : A → Type 0) (d : A) (l : List A) → ((i : ℕ) → i < length l → P (get_or l i d)) → All P l
  all_of P d [] f = tt
  all_of P d (x ∷ l) f = (f 0 (omega arith), all_of P d l (λ i h. f (suc i) (omega arith)))

  -- ---- filters
  module _ (test : A → Bool) where
    pub filter_keep : (x : A) (l : List A) → test x ≡ true → filter test (x ∷ l) ≡ x ∷ filter test l
    filter_keep x l e = rw e

    pub filter_skip : (x : A) (l : List A) → test x ≡ false → filter test (x ∷ l) ≡ filter test l
    filter_skip x l e = rw e

    pub filter-append : (a b : List A) → filter test (a ++ b) ≡ filter test a ++ filter test b
    filter-append [] b = refl
    filter-append (x ∷ a) b =
        by_test (test x)
        (λ e. rw e (ap (λ m. x ∷ m) (filter-append a b)))
        (λ e. rw e (filter-append a b))

    pub filter-length : (l : List A) → length (filter test l) ≤ length l
    filter-length [] = omega arith
    filter-length (x ∷ l) =
        by_test (test x)
        (λ e. rw e (omega (arith, filter-length l)))
        (λ e. rw e (omega (arith, filter-length l)))

    -- what is left passes
    pub filter_passes : (l : List A) → All (λ x. test x ≡ true) (filter test l)
    filter_passes [] = tt
    filter_passes (x ∷ l) =
        by_test (test x)
        (λ e. rw e (e, filter_passes l))
        (λ e. rw e (filter_passes l))

    -- what holds of all holds of those that are left
    pub filter_all : (P : A → Type 0) (l : List A) → All P l → All P (filter test l)
    filter_all P [] a = tt
    filter_all P (x ∷ l) a =
        by_test (test x)
        (λ e. rw e (a.0, filter_all P l a.1))
        (λ e. rw e (filter_all P l a.1))

    -- a fact that a passed test gives holds of all that are left
    pub filter_gives : (P : A → Type 0) → ((x : A) → test x ≡ true → P x) → (l : List A) → All P (filter test l)
    filter_gives P f l = all_map (λ x. test x ≡ true) P f (filter test l) (filter_passes l)

    pub filter-whole : (l : List A) → All (λ x. test x ≡ true) l → filter test l ≡ l
    filter-whole [] a = refl
    filter-whole (x ∷ l) a = rw a.0 (ap (λ m. x ∷ m) (filter-whole l a.1))

    pub filter_none : (l : List A) → All (λ x. test x ≡ false) l → filter test l ≡ []
    filter_none [] a = refl
    filter_none (x ∷ l) a = rw a.0 (filter_none l a.1)

    -- a filter behind a filter that lets through all that it would
    pub filter-within : (wide : A → Bool) (l : List A) → All (λ x. test x ≡ true → wide x ≡ true) l → filter test (filter wide l) ≡ filter test l
    filter-within wide [] a = refl
    filter-within wide (x ∷ l) a =
        by_test (wide x)
        (λ w. by_test (test x)
        (λ e. rw (w, e) (ap (λ m. x ∷ m) (filter-within wide l a.1)))
        (λ e. rw (w, e) (filter-within wide l a.1)))
        (λ w. by_test (test x)
        (λ e. absurd (apart (sym w ∙ a.0 e)))
        (λ e. rw (w, e) (filter-within wide l a.1)))

    pub filter_same : (other : A → Bool) (l : List A) → All (λ x. test x ≡ other x) l → filter test l ≡ filter other l
    filter_same other [] a = refl
    filter_same other (x ∷ l) a =
        by_test (other x)
        (λ e. rw (a.0, e) (ap (λ m. x ∷ m) (filter_same other l a.1)))
        (λ e. rw (a.0, e) (filter_same other l a.1))

  pub filter_map : {B : Type 0} (test : B → Bool) (f : A → B) (l : List A) → filter test (map f l) ≡ map f (filter (λ x. test (f x)) l)
  filter_map test f [] = refl
  filter_map test f (x ∷ l) =
      by_test (test (f x))
      (λ e. rw e (ap (λ m. f x ∷ m) (filter_map test f l)))
      (λ e. rw e (filter_map test f l))

-- a filter behind a filter is one by both tests
pub filter-both : {A : Type 0} (wide test : A → Bool) (l : List A) → filter test (filter wide l) ≡ filter (λ x. wide x && test x) l
filter-both wide test [] = refl
filter-both wide test (x ∷ l) =
    by_test (wide x)
    (λ w. by_test (test x) (λ e. rw (w, e) (ap (λ m. x ∷ m) (filter-both wide test l))) (λ e. rw (w, e) (filter-both wide test l)))
    (λ w. rw w (filter-both wide test l))
