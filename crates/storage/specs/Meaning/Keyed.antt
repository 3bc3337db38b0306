-- Lists of elements that have a key: those of one key are a cell's list. Assumes nothing.
use Rattle.std.specs.Prelude.{◌∷◌, ◌++◌}
use Rattle.basics.specs.Words.{ℕ, Bool, List, [], length, drop, ltb, eqb}
use Rattle.basics.specs.Meaning.Refusals.{pick}

abbrev pub All : {A : Type 0} → (A → Type 0) → List A → Type 0
All P [] = Unit {0}
All P (x ∷ l) = P x × All P l

-- those that pass a test, in order
abbrev pub filter : {A : Type 0} → (A → Bool) → List A → List A
filter test [] = []
filter test (x ∷ l) = pick (test x) (x ∷ filter test l) (filter test l)

-- a table whose first places are written anew: what stands past them stays
abbrev pub written : {A : Type 0} → List A → List A → List A
written new old = new ++ drop (length new) old

module _ {A : Type 0} (key : A → ℕ) where
  -- the list of cell k, what stands before it, and what stands behind it
  abbrev pub under : ℕ → List A → List A
  under k l = filter (λ x. eqb (key x) k) l

  abbrev pub below : ℕ → List A → List A
  below k l = filter (λ x. ltb (key x) k) l

  abbrev pub above : ℕ → List A → List A
  above k l = filter (λ x. ltb k (key x)) l

  -- cell k's list becomes f of it, and every other list stays
  unfoldable pub on_list : ℕ → (List A → List A) → List A → List A
  on_list k f l = below k l ++ (f (under k l) ++ above k l)

  -- e at the end of the list of its key
  unfoldable pub append1 : List A → A → List A
  append1 l e = on_list (key e) (λ r. r ++ (e ∷ [])) l

  -- the elements of es, one after the other
  unfoldable pub append_all : List A → List A → List A
  append_all l [] = l
  append_all l (e ∷ es) = append_all (append1 l e) es

-- ---- taking out: the last element moves into the gap
abbrev pub last : {A : Type 0} → A → List A → A
last x [] = x
last x (y ∷ l) = last y l

-- all of x ∷ l but the last
abbrev pub front : {A : Type 0} → A → List A → List A
front x [] = []
front x (y ∷ l) = x ∷ front y l

-- what stands behind a gap, once the last element has moved into it
abbrev pub close : {A : Type 0} → List A → List A
close [] = []
close (x ∷ l) = last x l ∷ front x l

-- the list without its first element that passes the test
abbrev pub take_out : {A : Type 0} → (A → Bool) → List A → List A
take_out test [] = []
take_out test (x ∷ l) = pick (test x) (close l) (x ∷ take_out test l)
