-- The calls of one tracker in a merge: where its first call stands, and what is left without it. Assumes nothing.
use Rattle.basics.specs.Words.{ℕ, ◌≡◌, refl, sym, ap, ◌∙◌, subst, List, [], ◌∷◌, ◌++◌, nil≢cons, cons≢nil, head-eq_of_cons-eq, tail-eq_of_cons-eq}
use Rattle.basics.specs.Words.{⊎_elim, eq-eqb, ne_eqb}
use Rattle.basics.proofs.laws.Says.{d_eq}
use Rattle.storage.specs.Meaning.Keyed.{All}
use Rattle.point_deferred.specs.Meaning.Calls.{Call}
use Rattle.trackers.specs.Meaning.Merges.{those, own}

-- ---- one call: tracker k's or not
module _ {A : Type 0} (k : ℕ) (c : Call) (m : List Call) (x : A) (xs : List A) where
  pub those-here : c.tracker ≡ k → those k (c ∷ m) (x ∷ xs) ≡ x ∷ those k m xs
  unfolding those
  those-here e = rw (eq-eqb c.tracker k e)

  pub those_there : (c.tracker ≡ k → ⊥) → those k (c ∷ m) (x ∷ xs) ≡ those k m xs
  unfolding those
  those_there n = rw (ne_eqb c.tracker k n)

module _ (k : ℕ) (c : Call) (m : List Call) where
  pub own-here : c.tracker ≡ k → own k (c ∷ m) ≡ c ∷ own k m
  own-here = those-here k c m c m

  pub own_there : (c.tracker ≡ k → ⊥) → own k (c ∷ m) ≡ own k m
  own_there = those_there k c m c m

  -- a merge that has no call of tracker k
  pub none_here : own k (c ∷ m) ≡ [] → (c.tracker ≡ k → ⊥) × (own k m ≡ [])
  none_here e =
      ⊎_elim (λ q. absurd (cons≢nil (sym (own-here q) ∙ e))) (λ q. (q, sym (own_there q) ∙ e)) (d_eq c.tracker k)

-- what is tracker k's is its
pub own_all : (k : ℕ) (m : List Call) → All (λ c. c.tracker ≡ k) (own k m)
unfolding those
own_all k [] = tt
own_all k (c ∷ m) = ⊎_elim (λ e. rw (own-here k c m e) (e, own_all k m)) (λ e. rw (own_there k c m e) (own_all k m)) (d_eq c.tracker k)

own-append : (k : ℕ) (m n : List Call) → own k (m ++ n) ≡ own k m ++ own k n
unfolding those
own-append k [] n = refl
own-append k (c ∷ m) n =
    ⊎_elim
    (λ e. own-here k c (m ++ n) e ∙ rw (own-here k c m e) (ap (λ (l : List Call). c ∷ l) (own-append k m n)))
    (λ e. own_there k c (m ++ n) e ∙ rw (own_there k c m e) (own-append k m n))
    (d_eq c.tracker k)

-- ---- the first call of tracker k
pub record Split (k : ℕ) (c : Call) (m : List Call) : Type 0 where
  pub pre : List Call
  pub post : List Call
  pub parts : m ≡ pre ++ c ∷ post
  pub first : own k pre ≡ []

pub split : (k : ℕ) (c : Call) (l m : List Call) → own k m ≡ c ∷ l → Split k c m
unfolding those
split k c l [] e = absurd (nil≢cons e)
split k c l (d ∷ m) e =
    ⊎_elim
    (λ q. record { pre = []; post = m; parts = ap (λ (b : Call). b ∷ m) (head-eq_of_cons-eq (sym (own-here k d m q) ∙ e)); first = refl })
    (λ q.
    let r = split k c l m (sym (own_there k d m q) ∙ e) in
    record { pre = d ∷ r.pre; post = r.post; parts = ap (λ (n : List Call). d ∷ n) r.parts; first = own_there k d r.pre q ∙ r.first })
    (d_eq d.tracker k)

-- what is left of two merges with the same calls of tracker k, without the first call of one of them
pub rest : (c : Call) (m pre post : List Call) → own c.tracker pre ≡ [] → (k : ℕ) → own k (c ∷ m) ≡ own k (pre ++ c ∷ post) → own k m ≡ own k (pre ++ post)
rest c m pre post f k e =
    ⊎_elim
    (λ q.
    let g : own k pre ≡ [] = subst (λ (j : ℕ). own j pre ≡ []) q f in
    rw (own-append k pre post, g)
    (tail-eq_of_cons-eq {x = c} {y = c} (sym (own-here k c m q) ∙ e ∙ own-append k pre (c ∷ post) ∙ rw (g, own-here k c post q) refl)))
    (λ q. rw (own-append k pre post) (sym (own_there k c m q) ∙ e ∙ own-append k pre (c ∷ post) ∙ rw (own_there k c post q) refl))
    (d_eq c.tracker k)
