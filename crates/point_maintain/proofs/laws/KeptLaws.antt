-- Laws of the walk of one list by itself: each entry that stays is kept, and each that is relocated is moved, once. Assumes nothing.
use Rattle.basics.specs.Words.{ℕ, zero, suc, ◌+◌, ◌≤◌, ◌≡◌, refl, sym, ◌∙◌, ap, List, [], ◌∷◌, ◌++◌, length, not-suc-le-zero, le_of_suc-le-suc, arith}
use Rattle.storage.specs.Meaning.Keyed.{All}
use Rattle.storage.specs.Meaning.Entries.{Entry}
use Rattle.storage.proofs.laws.FilterLaws.{all_append}
use Rattle.storage.proofs.laws.TakeOutLaws.{length-close, all_close}
use Rattle.point_maintain.specs.Meaning.Walk.{Fate, stays, leaves, staying, leaving, rest}
use Rattle.point_maintain.proofs.laws.Totals.{total}
use Rattle.point_maintain.proofs.laws.TotalLaws.{total-append, total-close}
use Rattle.point_maintain.specs.Inner.Kept.{kept_in, kept}
use Rattle.point_maintain.proofs.laws.Kept.{parts_in, moving}

-- ---- what is looked at next has the same entries
pub rest-length : (f : Fate) (es : List Entry) → length (rest f es) ≡ length es
rest-length (stays e) es = refl
rest-length (leaves m) es = length-close es

pub rest_all : (P : Entry → Type 0) (f : Fate) (es : List Entry) → All P es → All P (rest f es)
rest_all P (stays e) es a = a
rest_all P (leaves m) es a = all_close P es a

pub rest-total : (m : Entry → ℕ) (f : Fate) (es : List Entry) → total m (rest f es) ≡ total m es
rest-total m (stays e) es = refl
rest-total m (leaves l) es = total-close m es

-- ---- the walk, entry by entry
pub kept_step : (f : Entry → Fate) (e : Entry) (es : List Entry) → kept f (e ∷ es) ≡ staying (f e) ++ kept f (rest (f e) es)
unfolding kept
kept_step f e es = ap (λ (n : ℕ). staying (f e) ++ kept_in f n (rest (f e) es)) (sym (rest-length (f e) es))

-- ---- what is taken of each entry, once
module _ (part : Fate → List Entry) where
  pub parts_all : (f : Entry → Fate) (P Q : Entry → Type 0) → ((e : Entry) → P e → All Q (part (f e))) → (n : ℕ) (es : List Entry) → All P es → All Q (parts_in part f n es)
  unfolding parts_in
  parts_all f P Q g zero es a = tt
  parts_all f P Q g (suc n) [] a = tt
  parts_all f P Q g (suc n) (e ∷ es) a =
      all_append Q (part (f e)) (parts_in part f n (rest (f e) es)) (g e a.0) (parts_all f P Q g n (rest (f e) es) (rest_all P (f e) es a.1))

  pub parts_total : (f : Entry → Fate) (m : Entry → ℕ) (n : ℕ) (es : List Entry) → length es ≤ n → total m (parts_in part f n es) ≡ total (λ e. total m (part (f e))) es
  unfolding parts_in
  parts_total f m zero [] l = refl
  parts_total f m zero (e ∷ es) l = absurd (not-suc-le-zero l)
  parts_total f m (suc n) [] l = refl
  parts_total f m (suc n) (e ∷ es) l =
      total-append m (part (f e)) (parts_in part f n (rest (f e) es))
      ∙ ap (λ (k : ℕ). total m (part (f e)) + k)
      (parts_total f m n (rest (f e) es) (rw (rest-length (f e) es) (le_of_suc-le-suc l)) ∙ rest-total (λ x. total m (part (f x))) (f e) es)

  -- two rules that agree on the list
  pub parts_same : (f g : Entry → Fate) (n : ℕ) (es : List Entry) → All (λ e. f e ≡ g e) es → parts_in part f n es ≡ parts_in part g n es
  unfolding parts_in
  parts_same f g zero es a = refl
  parts_same f g (suc n) [] a = refl
  parts_same f g (suc n) (e ∷ es) a = rw a.0 (ap (λ (l : List Entry). part (g e) ++ l) (parts_same f g n (rest (g e) es) (rest_all (λ x. f x ≡ g x) (g e) es a.1)))

-- ---- what is kept is what stays
kept_in_parts : (f : Entry → Fate) (n : ℕ) (es : List Entry) → length es ≤ n → kept_in f n es ≡ parts_in staying f n es
unfolding kept_in parts_in
kept_in_parts f zero [] l = refl
kept_in_parts f zero (e ∷ es) l = absurd (not-suc-le-zero l)
kept_in_parts f (suc n) [] l = refl
kept_in_parts f (suc n) (e ∷ es) l = ap (λ (k : List Entry). staying (f e) ++ k) (kept_in_parts f n (rest (f e) es) (rw (rest-length (f e) es) (le_of_suc-le-suc l)))

module _ (f : Entry → Fate) where
  pub kept_parts : (es : List Entry) → kept f es ≡ parts_in staying f (length es) es
  unfolding kept
  kept_parts es = kept_in_parts f (length es) es (omega arith)

  pub kept_all : (P Q : Entry → Type 0) → ((e : Entry) → P e → All Q (staying (f e))) → (es : List Entry) → All P es → All Q (kept f es)
  kept_all P Q g es a = rw (kept_parts es) (parts_all staying f P Q g (length es) es a)

  pub kept-total : (m : Entry → ℕ) (es : List Entry) → total m (kept f es) ≡ total (λ e. total m (staying (f e))) es
  kept-total m es = rw (kept_parts es) (parts_total staying f m (length es) es (omega arith))

  pub kept_same : (g : Entry → Fate) (es : List Entry) → All (λ e. f e ≡ g e) es → kept f es ≡ kept g es
  unfolding kept
  kept_same g es a = kept_in_parts f (length es) es (omega arith) ∙ parts_same staying f g (length es) es a ∙ sym (kept_in_parts g (length es) es (omega arith))

  -- ---- a rule by which all stay
  kept_in_calm : (n : ℕ) (es : List Entry) → All (λ e. f e ≡ stays e) es → kept_in f n es ≡ es
  unfolding kept_in
  kept_in_calm zero es a = refl
  kept_in_calm (suc n) [] a = refl
  kept_in_calm (suc n) (e ∷ es) a = rw a.0 (ap (λ (l : List Entry). e ∷ l) (kept_in_calm n es a.1))

  moving_in_calm : (n : ℕ) (es : List Entry) → All (λ e. f e ≡ stays e) es → parts_in leaving f n es ≡ []
  unfolding parts_in
  moving_in_calm zero es a = refl
  moving_in_calm (suc n) [] a = refl
  moving_in_calm (suc n) (e ∷ es) a = rw a.0 (moving_in_calm n es a.1)

  pub kept_calm : (es : List Entry) → All (λ e. f e ≡ stays e) es → kept f es ≡ es
  unfolding kept
  kept_calm es a = kept_in_calm (length es) es a

  pub moving_calm : (es : List Entry) → All (λ e. f e ≡ stays e) es → moving f es ≡ []
  moving_calm es a = moving_in_calm (length es) es a
