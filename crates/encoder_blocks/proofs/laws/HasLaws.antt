-- Whether a list has an element that passes a test: whether what a filter leaves of it is not empty; from a place on; and of two lists. Assumes nothing.
use Rattle.basics.specs.Words.{ℕ, ◌+◌, ◌<◌, ◌≤◌, ◌≡◌, refl, sym, ap, ◌∙◌, Bool, true, false, ◌&&◌, ◌||◌, List, [], ◌∷◌, ◌++◌, length, get_or, drop}
use Rattle.basics.specs.Words.{drop_of_length-le, drop-cons, add-one}
use Rattle.basics.specs.Meaning.Refusals.{pick}
use Rattle.basics.proofs.laws.Says.{apart, or_true}
use Rattle.storage.specs.Meaning.Keyed.{All, filter}
use Rattle.storage.proofs.laws.FilterLaws.{by_test, filter-append, filter_same, filter-both}
use Rattle.storage.proofs.laws.TakeOutLaws.{has}
use Rattle.encoder_blocks.specs.Meaning.Some.{some}

module _ {A : Type 0} (test : A → Bool) where
  pub some-filter : (l : List A) → some (filter test l) ≡ has test l
  some-filter [] = refl
  some-filter (x ∷ l) = by_test (test x) (λ e. rw e) (λ e. rw e (some-filter l))

module _ {A : Type 0} (test other : A → Bool) where
  pub has_same : (l : List A) → All (λ x. test x ≡ other x) l → has test l ≡ has other l
  has_same l a = sym (some-filter test l) ∙ ap some (filter_same test other l a) ∙ some-filter other l

  -- of those that pass the other test
  pub has_both : (l : List A) → has test (filter other l) ≡ has (λ x. other x && test x) l
  has_both l = sym (some-filter test (filter other l)) ∙ ap some (filter-both other test l) ∙ some-filter (λ x. other x && test x) l

  pub has_or : (l : List A) → (has test l || has other l) ≡ has (λ x. test x || other x) l
  has_or [] = refl
  has_or (x ∷ l) =
      by_test (test x)
      (λ e. rw e)
      (λ e. by_test (other x) (λ q. rw (e, q) (or_true (has test l) refl)) (λ q. rw (e, q) (has_or l)))

-- ---- of the elements from place k on
module _ {A : Type 0} (test : A → Bool) (l : List A) (k : ℕ) where
  pub has_from : (d : A) → k < length l → has test (drop k l) ≡ pick (test (get_or l k d)) true (has test (drop (k + 1) l))
  has_from d h = rw (add-one k, drop-cons l k d h)

  pub has_past : length l ≤ k → has test (drop k l) ≡ false
  has_past h = rw (drop_of_length-le l h)

-- ---- those that a test leaves, where it leaves all that pass
pub has_within : {A : Type 0} (test wide : A → Bool) (l : List A) → All (λ x. test x ≡ true → wide x ≡ true) l → has test (filter wide l) ≡ has test l
has_within test wide [] a = refl
has_within test wide (x ∷ l) a =
    by_test (wide x)
    (λ w. rw w (ap (pick (test x) true) (has_within test wide l a.1)))
    (λ w. by_test (test x) (λ e. absurd (apart (sym w ∙ a.0 e))) (λ e. rw (w, e) (has_within test wide l a.1)))

-- ---- what a test lets through is not empty
some-append : {A : Type 0} (a b : List A) → some (a ++ b) ≡ (some a || some b)
some-append [] b = refl
some-append (x ∷ a) b = refl

module _ {A : Type 0} (test : A → Bool) where
  pub some-two : (a b : List A) → some (filter test (a ++ b)) ≡ (some (filter test a) || some (filter test b))
  some-two a b = ap some (filter-append test a b) ∙ some-append (filter test a) (filter test b)

  -- one element more
  pub some_more : (l : List A) (x : A) → some (filter test (l ++ (x ∷ []))) ≡ (some (filter test l) || test x)
  some_more l x = some-two l (x ∷ []) ∙ ap (λ b. some (filter test l) || b) (by_test (test x) (λ e. rw e) (λ e. rw e))
