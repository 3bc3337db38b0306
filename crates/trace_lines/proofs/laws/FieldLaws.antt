-- Fields and the record that they make: each is had from the other, as long as no field has a comma. Assumes nothing.
use Rattle.basics.specs.Words.{ℕ, suc, ◌+◌, ◌≡◌, refl, sym, ap, ◌∙◌, Bool, true, false, ◌&&◌, not, List, [], ◌∷◌, ◌++◌, length, length-append, eqb, arith}
use Rattle.basics.specs.Words.{eqb-true}
use Rattle.basics.specs.Meaning.Refusals.{pick}
use Rattle.basics.proofs.laws.Says.{apart}
use Rattle.trace_splits.specs.Meaning.Records.{onto}
use Rattle.trace_lines.specs.Meaning.Fields.{comma, fields_of}
use Rattle.trace_lines.specs.Inner.Fields.{joined}

-- ---- the fields of a record, joined, are the record
pub record Some (fs : List (List ℕ)) : Type 0 where
  pub first : List ℕ
  pub others : List (List ℕ)
  pub are : fs ≡ first ∷ others

some_field : (l : List ℕ) → Some (fields_of l)
unfolding fields_of
some_field [] = record { first = []; others = []; are = refl }
some_field (b ∷ l) = go (eqb b comma)
  where
    put : (fs : List (List ℕ)) → Some (onto b fs)
    put [] = record { first = b ∷ []; others = []; are = refl }
    put (f ∷ fs) = record { first = b ∷ f; others = fs; are = refl }

    go : (t : Bool) → Some (pick t ([] ∷ fields_of l) (onto b (fields_of l)))
    go true = record { first = []; others = fields_of l; are = refl }
    go false = put (fields_of l)

joined-onto : (b : ℕ) (f : List ℕ) (fs : List (List ℕ)) → joined ((b ∷ f) ∷ fs) ≡ b ∷ joined (f ∷ fs)
unfolding joined
joined-onto b f [] = refl
joined-onto b f (g ∷ fs) = refl

onto-joined : (b : ℕ) (fs : List (List ℕ)) → Some fs → joined (onto b fs) ≡ b ∷ joined fs
onto-joined b fs s = ap (λ (x : List (List ℕ)). joined (onto b x)) s.are ∙ (joined-onto b s.first s.others ∙ ap (λ (x : List (List ℕ)). b ∷ joined x) (sym s.are))

cut_joined : (fs : List (List ℕ)) → Some fs → joined ([] ∷ fs) ≡ comma ∷ joined fs
unfolding joined
cut_joined fs s = ap (λ (x : List (List ℕ)). joined ([] ∷ x)) s.are ∙ ap (λ (x : List (List ℕ)). comma ∷ joined x) (sym s.are)

pub joined_fields : (l : List ℕ) → joined (fields_of l) ≡ l
unfolding fields_of joined
joined_fields [] = refl
joined_fields (b ∷ l) = go (eqb b comma) refl (joined_fields l)
  where
    go : (t : Bool) → eqb b comma ≡ t → joined (fields_of l) ≡ l → joined (pick t ([] ∷ fields_of l) (onto b (fields_of l))) ≡ b ∷ l
    go true e ih = cut_joined (fields_of l) (some_field l) ∙ (λ z. sym (eqb-true b comma e) z ∷ ih z)
    go false e ih = onto-joined b (fields_of l) (some_field l) ∙ ap (λ (x : List ℕ). b ∷ x) ih

-- ---- joined, and cut again
unfoldable pub clear : List ℕ → Bool
clear [] = true
clear (b ∷ l) = not (eqb b comma) && clear l

abbrev pub AllClear : List (List ℕ) → Type 0
AllClear [] = Unit {0}
AllClear (f ∷ fs) = (clear f ≡ true) × AllClear fs

pub clear-append : (a b : List ℕ) → clear a ≡ true → clear b ≡ true → clear (a ++ b) ≡ true
unfolding clear
clear-append [] b h k = k
clear-append (c ∷ a) b h k = go (not (eqb c comma)) h (clear-append a b)
  where
    go : (t : Bool) → (t && clear a) ≡ true → (clear a ≡ true → clear b ≡ true → clear (a ++ b) ≡ true) → (t && clear (a ++ b)) ≡ true
    go true h ih = ih h k
    go false h ih = absurd (apart h)

pub all_clear-append : (fs gs : List (List ℕ)) → AllClear fs → AllClear gs → AllClear (fs ++ gs)
all_clear-append [] gs h k = k
all_clear-append (f ∷ fs) gs h k = (h.0, all_clear-append fs gs h.1 k)

-- a byte that is no comma
record Front (b : ℕ) (l : List ℕ) : Type 0 where
  other : eqb b comma ≡ false
  behind : clear l ≡ true

front : (b : ℕ) (l : List ℕ) → clear (b ∷ l) ≡ true → Front b l
unfolding clear
front b l = go (eqb b comma) refl
  where
    go : (t : Bool) → eqb b comma ≡ t → (not t && clear l) ≡ true → Front b l
    go true e h = absurd (apart h)
    go false e h = record { other = e; behind = h }

alone : (f : List ℕ) → clear f ≡ true → fields_of f ≡ f ∷ []
unfolding fields_of
alone [] h = refl
alone (b ∷ f) h = let q = front b f h in rw q.other (ap (onto b) (alone f q.behind))

before-comma : (f l : List ℕ) → clear f ≡ true → fields_of (f ++ comma ∷ l) ≡ f ∷ fields_of l
unfolding fields_of
before-comma [] l h = refl
before-comma (b ∷ f) l h = let q = front b f h in rw q.other (ap (onto b) (before-comma f l q.behind))

pub fields_joined : (f : List ℕ) (fs : List (List ℕ)) → AllClear (f ∷ fs) → fields_of (joined (f ∷ fs)) ≡ f ∷ fs
unfolding joined
fields_joined f [] h = alone f h.0
fields_joined f (g ∷ fs) h = before-comma f (joined (g ∷ fs)) h.0 ∙ ap (λ (x : List (List ℕ)). f ∷ x) (fields_joined g fs h.1)

-- ---- how long a record is
abbrev pub size : List (List ℕ) → ℕ
size [] = 0
size (f ∷ fs) = suc (length f) + size fs

pub size-append : (fs gs : List (List ℕ)) → size (fs ++ gs) ≡ size fs + size gs
size-append [] gs = omega arith
size-append (f ∷ fs) gs = omega (arith, size-append fs gs)

pub joined_length : (f : List ℕ) (fs : List (List ℕ)) → length (joined (f ∷ fs)) ≡ length f + size fs
unfolding joined
joined_length f [] = omega arith
joined_length f (g ∷ fs) = omega (arith, length-append f (comma ∷ joined (g ∷ fs)), joined_length g fs)
