-- What `firsts` keeps: the same numbers, and no number twice. Assumes nothing.
use Rattle.basics.specs.Words.{ℕ, ◌≡◌, sym, ap, ◌∙◌, Bool, true, not, List, [], ◌∷◌, Memᴰ, Memᴰ-head, Memᴰ-tail, Memᴰ-cases_cons}
use Rattle.basics.specs.Words.{Memᴰ-not_nil, ⊎_elim, eq-eqb, ne_eqb}
use Rattle.basics.proofs.laws.Says.{apart, d_eq}
use Rattle.storage.specs.Meaning.Keyed.{All, filter}
use Rattle.storage.proofs.laws.FilterLaws.{by_test, filter_all, filter_gives}
use Rattle.box_search.specs.Meaning.Firsts.{is_other, firsts}

-- ---- members of a filter
module _ {A : Type 0} (test : A → Bool) (x : A) where
  pub filter_member : (l : List A) → Memᴰ x l → test x ≡ true → Memᴰ x (filter test l)
  filter_member [] m t = m
  filter_member (y ∷ l) m t =
      ⊎_elim
      (λ q. let y-passes : test y ≡ true = ap test (sym q) ∙ t in rw y-passes (Memᴰ-head q))
      (λ k. by_test (test y) (λ q. rw q (Memᴰ-tail (filter_member l k t))) (λ q. rw q (filter_member l k t)))
      (Memᴰ-cases_cons m)

  pub member_filter : (l : List A) → Memᴰ x (filter test l) → Memᴰ x l × (test x ≡ true)
  member_filter [] m = absurd (Memᴰ-not_nil m)
  member_filter (y ∷ l) m =
      by_test (test y)
      (λ q.
      ⊎_elim
      (λ e. (Memᴰ-head e, ap test e ∙ q))
      (λ k. let f = member_filter l k in (Memᴰ-tail f.0, f.1))
      (Memᴰ-cases_cons (rw q at m)))
      (λ q. let f = member_filter l (rw q at m) in (Memᴰ-tail f.0, f.1))

-- ---- another number than x
pub other_yes : (x y : ℕ) → (y ≡ x → ⊥) → is_other x y ≡ true
other_yes x y n = ap not (ne_eqb y x n)

pub other_no : (x y : ℕ) → is_other x y ≡ true → y ≡ x → ⊥
other_no x y t e = apart (sym (ap not (eq-eqb y x e)) ∙ t)

-- ---- no number twice
abbrev pub Once : List ℕ → Type 0
Once [] = Unit {0}
Once (x ∷ l) = All (λ y. y ≡ x → ⊥) l × Once l

pub once-filter : (test : ℕ → Bool) (l : List ℕ) → Once l → Once (filter test l)
once-filter test [] o = tt
once-filter test (x ∷ l) o =
    by_test (test x)
    (λ q. rw q (filter_all test (λ y. y ≡ x → ⊥) l o.0, once-filter test l o.1))
    (λ q. rw q (once-filter test l o.1))

pub firsts-once : (l : List ℕ) → Once (firsts l)
unfolding firsts
firsts-once [] = tt
firsts-once (x ∷ l) = (filter_gives (is_other x) (λ y. y ≡ x → ⊥) (other_no x) (firsts l), once-filter (is_other x) (firsts l) (firsts-once l))

-- ---- the same numbers
pub firsts_of : (x : ℕ) (l : List ℕ) → Memᴰ x (firsts l) → Memᴰ x l
unfolding firsts
firsts_of x [] m = m
firsts_of x (y ∷ l) m = ⊎_elim (λ e. Memᴰ-head e) (λ k. Memᴰ-tail (firsts_of x l (member_filter (is_other y) x (firsts l) k).0)) (Memᴰ-cases_cons m)

pub of_firsts : (x : ℕ) (l : List ℕ) → Memᴰ x l → Memᴰ x (firsts l)
unfolding firsts
of_firsts x [] m = m
of_firsts x (y ∷ l) m =
    ⊎_elim
    (λ e. Memᴰ-head e)
    (λ k. ⊎_elim (λ e. Memᴰ-head e) (λ n. Memᴰ-tail (filter_member (is_other y) x (firsts l) (of_firsts x l k) (other_yes y x n))) (d_eq x y))
    (Memᴰ-cases_cons m)

pub all_firsts : (P : ℕ → Type 0) (l : List ℕ) → All P l → All P (firsts l)
unfolding firsts
all_firsts P [] a = tt
all_firsts P (x ∷ l) a = (a.0, filter_all (is_other x) P (firsts l) (all_firsts P l a.1))
