-- A cell that is entered has a row: its own, or a new one with no mark. So the rows stay a storage when an entry is appended and its cell
-- entered, and there are never more rows than entries. Assumes nothing.
use Rattle.basics.specs.Words.{ℕ, zero, suc, ◌<◌, ◌≤◌, ◌≡◌, refl, sym, List, [], ◌∷◌, ◌++◌, cons≢nil, inl, inr, eqb, arith, eqb-false}
use Rattle.basics.proofs.laws.Says.{d_le}
use Rattle.storage.specs.Meaning.Keyed.{All, under, on_list, append1}
use Rattle.storage.specs.Inner.Keyed.{Sorted}
use Rattle.storage.specs.Meaning.Entries.{row_key}
use Rattle.storage.specs.Meaning.CellTable.{row_or, entered}
use Rattle.storage.specs.Meaning.Packed.{first, Packed}
use Rattle.storage.proofs.laws.FilterLaws.{by_test, all_map}
use Rattle.storage.proofs.laws.KeyedLaws.{on_list-same}
use Rattle.storage.proofs.laws.AppendLaws.{sorted-append1, under-append1, all_append1}
use Rattle.storage.proofs.laws.StorageLaws.{own-filled}
use Rattle.storage.specs.Inner.Store.{Filled}
use Rattle.point_tables.proofs.laws.Members.{pairs_append1}
use Rattle.point_tables.proofs.laws.RowLaws.{Single, PackedRows}

-- ---- a cell has a row, or it has none
no_test : (k : ℕ) (c : List (List ℕ)) → under row_key k c ≡ [] → All (λ r. row_key r ≡ k → ⊥) c
no_test k [] e = tt
no_test k (r ∷ c) e =
    by_test (eqb (row_key r) k)
    (λ q. absurd (cons≢nil (rw q at e)))
    (λ q. (eqb-false (row_key r) k q, no_test k c (rw q at e)))

module _ (k : ℕ) (c : List (List ℕ)) where
  absent : under row_key k c ≡ [] → entered k c ≡ append1 row_key c (k ∷ 0 ∷ [])
  unfolding entered append1 on_list
  absent e = rw e

  module _ (sorted : Sorted row_key c) where
    present : Filled (under row_key k c) → entered k c ≡ c
    unfolding entered
    present f = on_list-same row_key k (row_or k) c sorted (kept (under row_key k c) f)
      where
        kept : (l : List (List ℕ)) → Filled l → row_or k l ≡ l
        kept [] f = absurd f
        kept (r ∷ l) f = refl

    pub entered_by_lem : (G : List (List ℕ) → Type 0) → (under row_key k c ≡ [] → G (append1 row_key c (k ∷ 0 ∷ []))) → (Filled (under row_key k c) → G c) → G (entered k c)
    entered_by_lem G f g = go (under row_key k c) refl
      where
        go : (l : List (List ℕ)) → under row_key k c ≡ l → G (entered k c)
        go [] e = rw (absent e) (f e)
        go (r ∷ l) e = let p : Filled (under row_key k c) = rw e tt in rw (present p) (g p)

    -- what holds of every row, and of a new one where there is need of it
    pub all_entered : (P : List ℕ → Type 0) → All P c → (under row_key k c ≡ [] → P (k ∷ 0 ∷ [])) → All P (entered k c)
    all_entered P a f = entered_by_lem (All P) (λ n. all_append1 row_key P c (k ∷ 0 ∷ []) a (f n)) (λ p. a)

-- ---- the lists that are not empty stay so
filled-left : {A : Type 0} (a b : List A) → Filled a → Filled (a ++ b)
filled-left [] b f = absurd f
filled-left (x ∷ a) b f = f

filled-right : {A : Type 0} (a b : List A) → Filled b → Filled (a ++ b)
filled-right [] b f = f
filled-right (x ∷ a) b f = tt

module _ (l : List (List ℕ)) (x : List ℕ) where
  filled_old : (k : ℕ) → Filled (under row_key k l) → Filled (under row_key k (append1 row_key l x))
  filled_old k f = rw (under-append1 row_key k l x) (filled-left (under row_key k l) (under row_key k (x ∷ [])) f)

  filled-new : Filled (under row_key (row_key x) (append1 row_key l x))
  filled-new = rw (under-append1 row_key (row_key x) l x) (filled-right (under row_key (row_key x) l) (under row_key (row_key x) (x ∷ [])) (own-filled row_key (x ∷ [])).0)

-- ---- an entry appended and its cell entered
module _ (p c : List (List ℕ)) (h : PackedRows p c) (x : List ℕ) where
  pub packed-append : PackedRows (append1 row_key p x) (entered (row_key x) c)
  packed-append =
      record {
        ordered = sorted-append1 row_key p x h.ordered;
        in_order = by (Sorted row_key) (λ n. sorted-append1 row_key c new h.in_order) (λ q. h.in_order);
        single = by Single (λ n. pairs_append1 row_key new c h.in_order _ (λ r f e. f (sym e)) h.single (no_test (row_key x) c n)) (λ q. h.single);
        has_row = all_append1 row_key _ p x (all_map _ _ (λ y f. by (λ m. Filled (under row_key (row_key y) m)) (λ n. filled_old c new (row_key y) f) (λ q. f)) p h.has_row) (by (λ m. Filled (under row_key (row_key x) m)) (λ n. filled-new c new) (λ q. q));
        has_list = all_entered (row_key x) c h.in_order _ (all_map _ _ (λ r f. filled_old p x (row_key r) f) c h.has_list) (λ n. filled-new p x);
        marks = all_entered (row_key x) c h.in_order _ h.marks (λ n. omega arith);
      }
    where
      new : List ℕ
      new = row_key x ∷ 0 ∷ []

      by : (G : List (List ℕ) → Type 0) → (under row_key (row_key x) c ≡ [] → G (append1 row_key c (row_key x ∷ 0 ∷ []))) → (Filled (under row_key (row_key x) c) → G c) → G (entered (row_key x) c)
      by = entered_by_lem (row_key x) c h.in_order

-- ---- each row has a list, so there are no more rows than entries
module _ (used rows : ℕ) (pool cells : List (List ℕ)) (h : Packed used rows pool cells) where
  -- the list of row r stands at place r or behind it
  behind : (r : ℕ) (l : r < rows) → r ≤ (h.has_list r l).0
  behind zero l = omega arith
  behind (suc r) l =
      let m : r < rows = omega arith in
      let a = h.has_list r m in
      let b = h.has_list (suc r) l in
      let up : first cells r < first cells (suc r) = h.ascending r (suc r) l (omega arith) in
      elim (d_le b.0 a.0) [
        | inl g ↦ absurd (omega (arith, h.ordered b.0 a.0 a.1 g, a.2, b.2))
        | inr g ↦ omega (arith, behind r m, g)
      ]

  pub rows-least : rows ≤ used
  rows-least = go rows (omega arith)
    where
      go : (n : ℕ) → n ≤ rows → n ≤ used
      go zero l = omega arith
      go (suc n) l = omega (arith, behind n l, (h.has_list n l).1)
