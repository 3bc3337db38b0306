-- Laws of the finite map: looking up after each operation, what stays well-formed, and that a map is determined by its rows.
-- Assumes nothing.
use Rattle.basics.specs.Words.{ℕ, ◌≤◌, ◌<◌, ◌≡◌, refl, sym, ◌∙◌, ap, ap₂, subst, List, [], ◌∷◌, ⊎_elim, eqb, arith, lt-ltb, le-ltb, eq-eqb, ne_eqb, eqb-true}
use Rattle.basics.proofs.laws.Says.{d_eq}
use Rattle.storage.specs.Meaning.Keyed.{All}
use Rattle.storage.specs.Inner.Store.{Filled, Row, Listed, empty_row, WellFormed, row_at, in_front, put_row}
use Rattle.storage.proofs.laws.Tables.{tidy_by, tidy, Keyed}
use Rattle.storage.proofs.laws.FilterLaws.{by_test, by_order, all_map}

module _ {A : Type 0} where
  -- ---- looking up
  pub row_at-here : (r : Listed A) (rs : List (Listed A)) (j : ℕ) → r.key ≡ j → row_at (r ∷ rs) j ≡ r.row
  unfolding row_at
  row_at-here r rs j e = rw (eq-eqb r.key j e)

  pub row_at_there : (r : Listed A) (rs : List (Listed A)) (j : ℕ) → (r.key ≡ j → ⊥) → row_at (r ∷ rs) j ≡ row_at rs j
  unfolding row_at
  row_at_there r rs j n = rw (ne_eqb r.key j n)

  pub row_at-none : (rs : List (Listed A)) (j : ℕ) → All (λ q. j < q.key) rs → row_at rs j ≡ empty_row
  unfolding row_at
  row_at-none [] j a = refl
  row_at-none (r ∷ rs) j a = let h : j < r.key = a.0 in row_at_there r rs j (λ e. omega arith) ∙ row_at-none rs j a.1

  pub row_at_tidy : (s : List (Listed A)) → WellFormed s → (j : ℕ) → tidy (row_at s j) ≡ row_at s j
  unfolding row_at
  row_at_tidy [] w j = refl
  row_at_tidy (r ∷ rs) w j =
      by_test (eqb r.key j)
      (λ e. rw e (filled r.row r.row.entries w.0))
      (λ e. rw e (row_at_tidy rs w.2 j))
    where
      filled : (w : Row A) (es : List A) → Filled es → tidy_by w es ≡ w
      filled w [] f = absurd f
      filled w (x ∷ es) f = refl

  -- a row in use, and one that is not
  pub row_at_empty : (s : List (Listed A)) → WellFormed s → (j : ℕ) → (row_at s j).entries ≡ [] → row_at s j ≡ empty_row
  row_at_empty s w j e = sym (row_at_tidy s w j) ∙ ap (tidy_by (row_at s j)) e

  -- ---- a map is determined by its rows
  not_empty : (r : Row A) → Filled r.entries → r ≡ empty_row → ⊥
  not_empty r f e = subst (λ (q : Row A). Filled q.entries) e f

  above_less : (j k : ℕ) (rs : List (Listed A)) → j ≤ k → All (λ q. k < q.key) rs → All (λ q. j < q.key) rs
  above_less j k rs h a = all_map (λ q. k < q.key) (λ q. j < q.key) (λ q g. omega arith) rs a

  module _ (r q : Listed A) (a b : List (Listed A)) (h : (j : ℕ) → row_at (r ∷ a) j ≡ row_at (q ∷ b) j) where
    first-least : Filled r.row.entries → All (λ p. q.key < p.key) b → r.key < q.key → ⊥
    first-least f u l =
        not_empty r.row f
        (sym (row_at-here r a r.key refl) ∙ h r.key ∙ row_at-none (q ∷ b) r.key (l, above_less r.key q.key b (omega arith) u))

    rest-same : r.key ≡ q.key → All (λ p. r.key < p.key) a → All (λ p. q.key < p.key) b → (j : ℕ) → row_at a j ≡ row_at b j
    rest-same e u v j =
        ⊎_elim
        (λ l. row_at-none a j (above_less j r.key a (omega arith) u) ∙ sym (row_at-none b j (above_less j q.key b (omega arith) v)))
        (λ n. sym (row_at_there r a j n) ∙ h j ∙ row_at_there q b j (λ i. n (e ∙ i)))
        (d_eq r.key j)

    first-same : r.key ≡ q.key → r ≡ q
    first-same e =
        ap₂ {C = Listed A} (λ (k : ℕ) (w : Row A). record { key = k; row = w }) e
        (sym (row_at-here r a r.key refl) ∙ h r.key ∙ row_at-here q b r.key (sym e))

  pub map_determined : (a b : List (Listed A)) → WellFormed a → WellFormed b → ((j : ℕ) → row_at a j ≡ row_at b j) → a ≡ b
  unfolding row_at
  map_determined [] [] s t h = refl
  map_determined [] (q ∷ b) s t h = absurd (not_empty q.row t.0 (sym (row_at-here q b q.key refl) ∙ sym (h q.key)))
  map_determined (r ∷ a) [] s t h = absurd (not_empty r.row s.0 (sym (row_at-here r a r.key refl) ∙ h r.key))
  map_determined (r ∷ a) (q ∷ b) s t h =
      by_order r.key q.key
      (λ l. absurd (first-least r q a b h s.0 t.1 l))
      (λ e. ap₂ {C = List (Listed A)} (λ (x : Listed A) (xs : List (Listed A)). x ∷ xs) (first-same r q a b h e) (map_determined a b s.2 t.2 (rest-same r q a b h e s.1 t.1)))
      (λ l. absurd (first-least q r b a (λ j. sym (h j)) t.0 s.1 l))

  -- ---- a row replaced
  module _ (k : ℕ) (w : Row A) where
    put-past : (r : Listed A) (rs : List (Listed A)) → r.key < k → put_row k w (r ∷ rs) ≡ r ∷ put_row k w rs
    unfolding put_row
    put-past r rs h = rw (ne_eqb r.key k (λ e. omega arith), le-ltb k r.key (omega arith))

    put-here : (r : Listed A) (rs : List (Listed A)) → r.key ≡ k → put_row k w (r ∷ rs) ≡ in_front k w w.entries rs
    unfolding put_row
    put-here r rs h = rw (eq-eqb r.key k h)

    put-before : (r : Listed A) (rs : List (Listed A)) → k < r.key → put_row k w (r ∷ rs) ≡ in_front k w w.entries (r ∷ rs)
    unfolding put_row
    put-before r rs h = rw (ne_eqb r.key k (λ e. omega arith), lt-ltb k r.key h)

    front_at : (es : List A) (rs : List (Listed A)) → All (λ q. k < q.key) rs → row_at (in_front k w es rs) k ≡ tidy_by w es
    front_at [] rs a = row_at-none rs k a
    front_at (x ∷ es) rs a = row_at-here (record { key = k; row = w }) rs k refl

    front_other : (es : List A) (rs : List (Listed A)) (j : ℕ) → (j ≡ k → ⊥) → row_at (in_front k w es rs) j ≡ row_at rs j
    front_other [] rs j n = refl
    front_other (x ∷ es) rs j n = row_at_there (record { key = k; row = w }) rs j (λ e. n (sym e))

    front_all : (P : Listed A → Type 0) → P (record { key = k; row = w }) → (es : List A) (rs : List (Listed A)) → All P rs → All P (in_front k w es rs)
    front_all P p [] rs a = a
    front_all P p (x ∷ es) rs a = (p, a)

    front_formed : (rs : List (Listed A)) → All (λ q. k < q.key) rs → WellFormed rs → WellFormed (in_front k w w.entries rs)
    front_formed rs a s = go w.entries refl
      where
        go : (es : List A) → w.entries ≡ es → WellFormed (in_front k w es rs)
        go [] e = s
        go (x ∷ es) e = (subst Filled (sym e) tt, a, s)

    pub put_at_lem : (s : List (Listed A)) → WellFormed s → row_at (put_row k w s) k ≡ tidy w
    put_at_lem [] f = unfold put_row in front_at w.entries [] tt
    put_at_lem (r ∷ rs) f =
        by_order r.key k
        (λ h. rw (put-past r rs h) (row_at_there r (put_row k w rs) k (λ e. omega arith) ∙ put_at_lem rs f.2))
        (λ h. rw (put-here r rs h) (front_at w.entries rs (above_less k r.key rs (omega arith) f.1)))
        (λ h. rw (put-before r rs h) (front_at w.entries (r ∷ rs) (h, above_less k r.key rs (omega arith) f.1)))

    pub put_other : (s : List (Listed A)) (j : ℕ) → (j ≡ k → ⊥) → row_at (put_row k w s) j ≡ row_at s j
    put_other [] j n = unfold put_row in front_other w.entries [] j n
    put_other (r ∷ rs) j n =
        by_order r.key k
        (λ h.
        rw (put-past r rs h)
        (⊎_elim
        (λ l. row_at-here r (put_row k w rs) j l ∙ sym (row_at-here r rs j l))
        (λ m. row_at_there r (put_row k w rs) j m ∙ put_other rs j n ∙ sym (row_at_there r rs j m))
        (d_eq r.key j)))
        (λ h. rw (put-here r rs h) (front_other w.entries rs j n ∙ sym (row_at_there r rs j (λ e. n (sym e ∙ h)))))
        (λ h. rw (put-before r rs h) (front_other w.entries (r ∷ rs) j n))

    pub put_all : (P : Listed A → Type 0) → P (record { key = k; row = w }) → (s : List (Listed A)) → All P s → All P (put_row k w s)
    put_all P p [] a = unfold put_row in front_all P p w.entries [] tt
    put_all P p (r ∷ rs) a =
        by_order r.key k
        (λ h. rw (put-past r rs h) (a.0, put_all P p rs a.1))
        (λ h. rw (put-here r rs h) (front_all P p w.entries rs a.1))
        (λ h. rw (put-before r rs h) (front_all P p w.entries (r ∷ rs) a))

    pub put_formed : (s : List (Listed A)) → WellFormed s → WellFormed (put_row k w s)
    put_formed [] f = unfold put_row in front_formed [] tt tt
    put_formed (r ∷ rs) f =
        by_order r.key k
        (λ h. rw (put-past r rs h) (f.0, put_all (λ q. r.key < q.key) h rs f.1, put_formed rs f.2))
        (λ h. rw (put-here r rs h) (front_formed rs (above_less k r.key rs (omega arith) f.1) f.2))
        (λ h. rw (put-before r rs h) (front_formed (r ∷ rs) (h, above_less k r.key rs (omega arith) f.1) f))

    pub put_keyed : (key : A → ℕ) → All (λ x. key x ≡ k) w.entries → (s : List (Listed A)) → Keyed key s → Keyed key (put_row k w s)
    put_keyed key own s a = put_all (λ r. All (λ x. key x ≡ r.key) r.row.entries) own s a

  pub row_at_keyed : (key : A → ℕ) (s : List (Listed A)) → Keyed key s → (j : ℕ) → All (λ x. key x ≡ j) (row_at s j).entries
  unfolding row_at
  row_at_keyed key [] a j = tt
  row_at_keyed key (r ∷ rs) a j =
      by_test (eqb r.key j)
      (λ e. rw e (all_map (λ x. key x ≡ r.key) (λ x. key x ≡ j) (λ x q. q ∙ eqb-true r.key j e) r.row.entries a.0))
      (λ e. rw e (row_at_keyed key rs a.1 j))
