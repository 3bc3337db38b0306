-- What a projection makes of a list that is kept by keys: if it keeps the keys, it goes through `on_list`, `append1` and `take_out`, so
-- that columns that are changed alike stay one list. Assumes nothing.
use Rattle.basics.specs.Words.{ℕ, ◌≤◌, ◌≡◌, refl, sym, ◌∙◌, ap, ap₂, Bool, List, [], ◌∷◌, ◌++◌, map, map-append, length, ltb, eqb, not-suc-le-zero}
use Rattle.basics.specs.Words.{le_of_suc-le-suc}
use lib.Ieee.{Float}
use Rattle.storage.specs.Meaning.Keyed.{filter, under, below, above, on_list, append1, last, front, close, take_out}
use Rattle.storage.specs.Meaning.Entries.{Entry, row_key, entry_key, row_of, spot_of, zipped}
use Rattle.storage.proofs.laws.FilterLaws.{by_test, all_any, filter_same, filter_map}

module _ {A B : Type 0} (f : A → B) where
  map_last : (x : A) (l : List A) → f (last x l) ≡ last (f x) (map f l)
  map_last x [] = refl
  map_last x (y ∷ l) = map_last y l

  map-front : (x : A) (l : List A) → map f (front x l) ≡ front (f x) (map f l)
  map-front x [] = refl
  map-front x (y ∷ l) = ap (λ m. f x ∷ m) (map-front y l)

  pub map-close : (l : List A) → map f (close l) ≡ close (map f l)
  map-close [] = refl
  map-close (x ∷ l) = ap₂ {C = List B} (λ (y : B) (m : List B). y ∷ m) (map_last x l) (map-front x l)

  pub map-take_out : (test : B → Bool) (l : List A) → map f (take_out (λ x. test (f x)) l) ≡ take_out test (map f l)
  map-take_out test [] = refl
  map-take_out test (x ∷ l) =
      by_test (test (f x))
      (λ e. rw e (map-close l))
      (λ e. rw e (ap (λ m. f x ∷ m) (map-take_out test l)))

  module _ (key_a : A → ℕ) (key_b : B → ℕ) (keeps : (x : A) → key_b (f x) ≡ key_a x) where
    map-filter : (test : ℕ → Bool) (l : List A) → map f (filter (λ x. test (key_a x)) l) ≡ filter (λ y. test (key_b y)) (map f l)
    map-filter test l =
        sym (filter_map (λ y. test (key_b y)) f l
        ∙ ap (map f) (filter_same (λ x. test (key_b (f x))) (λ x. test (key_a x)) l (all_any (λ x. test (key_b (f x)) ≡ test (key_a x)) (λ x. ap test (keeps x)) l)))

    pub map-under : (k : ℕ) (l : List A) → map f (under key_a k l) ≡ under key_b k (map f l)
    map-under k l = map-filter (λ j. eqb j k) l

    pub map_below : (k : ℕ) (l : List A) → map f (below key_a k l) ≡ below key_b k (map f l)
    map_below k l = map-filter (λ j. ltb j k) l

    pub map-above : (k : ℕ) (l : List A) → map f (above key_a k l) ≡ above key_b k (map f l)
    map-above k l = map-filter (λ j. ltb k j) l

    pub map-on_list : (k : ℕ) (g : List A → List A) (h : List B → List B) → ((r : List A) → map f (g r) ≡ h (map f r)) → (l : List A)
        → map f (on_list key_a k g l) ≡ on_list key_b k h (map f l)
    unfolding on_list
    map-on_list k g h c l =
        rw (map-append f (below key_a k l) (g (under key_a k l) ++ above key_a k l), map-append f (g (under key_a k l)) (above key_a k l), c (under key_a k l), map_below k l, map-under k l, map-above k l)

    pub map-on_list-take_out : (k : ℕ) (test : B → Bool) (l : List A) → map f (on_list key_a k (take_out (λ x. test (f x))) l) ≡ on_list key_b k (take_out test) (map f l)
    map-on_list-take_out k test l = map-on_list k (take_out (λ x. test (f x))) (take_out test) (map-take_out test) l

    pub map-append1 : (l : List A) (e : A) → map f (append1 key_a l e) ≡ append1 key_b (map f l) (f e)
    unfolding append1
    map-append1 l e = rw (keeps e) (map-on_list (key_a e) (λ r. r ++ (e ∷ [])) (λ r. r ++ (f e ∷ [])) (λ r. map-append f r (e ∷ [])) l)

-- ---- the two columns of the pool
pub zipped-rows : (rows : List (List ℕ)) (spots : List (List Float)) → length rows ≤ length spots → map row_of (zipped rows spots) ≡ rows
zipped-rows [] spots h = refl
zipped-rows (r ∷ rows) [] h = absurd (not-suc-le-zero h)
zipped-rows (r ∷ rows) (s ∷ spots) h = ap (λ (m : List (List ℕ)). r ∷ m) (zipped-rows rows spots (le_of_suc-le-suc h))

pub zipped-spots : (rows : List (List ℕ)) (spots : List (List Float)) → length spots ≤ length rows → map spot_of (zipped rows spots) ≡ spots
zipped-spots rows [] h = none rows
  where
    none : (rows : List (List ℕ)) → map spot_of (zipped rows []) ≡ []
    none [] = refl
    none (r ∷ rows) = refl
zipped-spots [] (s ∷ spots) h = absurd (not-suc-le-zero h)
zipped-spots (r ∷ rows) (s ∷ spots) h = ap (λ (m : List (List Float)). s ∷ m) (zipped-spots rows spots (le_of_suc-le-suc h))

-- a list of entries is its two columns
pub zipped-whole : (es : List Entry) → zipped (map row_of es) (map spot_of es) ≡ es
zipped-whole [] = refl
zipped-whole (e ∷ es) = ap (λ (m : List Entry). e ∷ m) (zipped-whole es)

module _ (l : List Entry) where
  pub rows-append1 : (e : Entry) → map row_of (append1 entry_key l e) ≡ append1 row_key (map row_of l) (row_of e)
  rows-append1 e = map-append1 row_of entry_key row_key (λ x. refl) l e

  pub rows-take_out : (k : ℕ) (test : List ℕ → Bool) → map row_of (on_list entry_key k (take_out (λ e. test (row_of e))) l) ≡ on_list row_key k (take_out test) (map row_of l)
  rows-take_out k test = map-on_list-take_out row_of entry_key row_key (λ x. refl) k test l
