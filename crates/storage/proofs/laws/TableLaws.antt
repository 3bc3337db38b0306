-- The two tables of a well-formed map: the pool is sorted and holds each cell's list, the rows are those of the cells in use, and each
-- operation on the map is the operation on the tables. Assumes nothing.
use Rattle.basics.specs.Words.{ℕ, ◌≤◌, ◌<◌, ◌≡◌, refl, sym, ◌∙◌, ap, Bool, true, false, List, [], ◌∷◌, ◌++◌, append-nil, map, eqb, arith, eqb-true, eqb-false}
use Rattle.basics.specs.Words.{eq-eqb, ne_eqb}
use Rattle.storage.specs.Meaning.Keyed.{All, under, on_list}
use Rattle.storage.specs.Inner.Keyed.{Sorted}
use Rattle.storage.specs.Meaning.Entries.{row_key}
use Rattle.storage.specs.Meaning.CellTable.{keys_from, keys_of}
use Rattle.storage.specs.Inner.Store.{Filled, Row, Listed, empty_row, WellFormed, row_at, put_row}
use Rattle.storage.proofs.laws.Store.{mark_of, pool_of, table_of}
use Rattle.storage.specs.Inner.Tables.{Rising}
use Rattle.storage.proofs.laws.Tables.{tidy_by, tidy, rows_by, rows_for, Keyed}
use Rattle.storage.proofs.laws.FilterLaws.{by_test, by_order, all_map, all_append, filter-append}
use Rattle.storage.proofs.laws.KeyedLaws.{whole-under, none-under, sorted_flat, sorted_join, sorted_determined, under-on_list, under_other}
use Rattle.storage.proofs.laws.KeyedLaws.{sorted-on_list}
use Rattle.storage.proofs.laws.StoreLaws.{row_at-none, put_at_lem, put_other, put_formed, put_keyed}

-- no element
abbrev pub is_nil : {A : Type 0} → List A → Bool
is_nil [] = true
is_nil (x ∷ l) = false

module _ {A : Type 0} where
  pub rising-sorted : (key : A → ℕ) (l : List A) → Rising key l → Sorted key l
  rising-sorted key [] r = tt
  rising-sorted key (x ∷ l) r = (all_map (λ y. key x < key y) (λ y. key x ≤ key y) (λ y h. omega arith) l r.0, rising-sorted key l r.1)

module _ {A : Type 0} where
  tidy_entries : (w : Row A) → (tidy w).entries ≡ w.entries
  tidy_entries w = go w.entries refl
    where
      go : (es : List A) → w.entries ≡ es → (tidy_by w es).entries ≡ es
      go [] e = refl
      go (x ∷ es) e = e

  tidy_rows : (k : ℕ) (w : Row A) → rows_for k (tidy w) ≡ rows_for k w
  tidy_rows k w = go w.entries refl
    where
      go : (es : List A) → w.entries ≡ es → rows_by k (tidy_by w es) (tidy_by w es).entries ≡ rows_by k w es
      go [] e = refl
      go (x ∷ es) e = ap (rows_by k w) e

  own-rows : (k : ℕ) (w : Row A) (es : List A) → All (λ r. row_key r ≡ k) (rows_by k w es)
  own-rows k w [] = tt
  own-rows k w (x ∷ es) = (refl, tt)

  -- ---- the table of rows
  pub table-under : (s : List (Listed A)) → WellFormed s → (j : ℕ) → under row_key j (table_of s) ≡ rows_for j (row_at s j)
  unfolding table_of row_at
  table-under [] f j = refl
  table-under (r ∷ rs) f j =
      by_test (eqb r.key j)
      (λ e.
      let h : r.key ≡ j = eqb-true r.key j e in
      let n : row_at rs j ≡ empty_row = row_at-none rs j (all_map (λ q. r.key < q.key) (λ q. j < q.key) (λ q g. omega arith) rs f.1) in
      rw (e, table-under rs f.2 j, n, h) (one r.row r.row.entries f.0))
      (λ e. rw e (table-under rs f.2 j))
    where
      one : (w : Row A) (es : List A) → Filled es → (j ∷ mark_of w.dirty ∷ []) ∷ [] ≡ rows_by j w es
      one w [] u = absurd u
      one w (x ∷ es) u = refl

  pub table_all : (P : List ℕ → Type 0) (s : List (Listed A)) → All (λ r. P (r.key ∷ mark_of r.row.dirty ∷ [])) s → All P (table_of s)
  unfolding table_of
  table_all P [] a = tt
  table_all P (r ∷ rs) a = (a.0, table_all P rs a.1)

  pub table-rising : (s : List (Listed A)) → WellFormed s → Rising row_key (table_of s)
  unfolding table_of
  table-rising [] f = tt
  table-rising (r ∷ rs) f = (table_all (λ q. r.key < row_key q) rs f.1, table-rising rs f.2)

  pub table-sorted : (s : List (Listed A)) → WellFormed s → Sorted row_key (table_of s)
  table-sorted s f = rising-sorted row_key (table_of s) (table-rising s f)

  -- ---- the pool
  module _ (key : A → ℕ) where
    pub pool-under : (s : List (Listed A)) → WellFormed s → Keyed key s → (j : ℕ) → under key j (pool_of s) ≡ (row_at s j).entries
    unfolding pool_of row_at
    pool-under [] f a j = refl
    pool-under (r ∷ rs) f a j =
        let away : (r.key ≡ j → ⊥) → under key j r.row.entries ≡ [] =
        λ n. none-under key j r.row.entries (all_map (λ x. key x ≡ r.key) (λ x. key x ≡ j → ⊥) (λ x e q. n (sym e ∙ q)) r.row.entries a.0) in
        rw (filter-append (λ x. eqb (key x) j) r.row.entries (pool_of rs), pool-under rs f.2 a.1 j)
        (by_order r.key j
        (λ h. rw (ne_eqb r.key j (λ e. omega arith), away (λ e. omega arith)))
        (λ h.
        rw (eq-eqb r.key j h, row_at-none rs j (all_map (λ q. r.key < q.key) (λ q. j < q.key) (λ q g. omega arith) rs f.1), whole-under key j r.row.entries (all_map (λ x. key x ≡ r.key) (λ x. key x ≡ j) (λ x e. e ∙ h) r.row.entries a.0))
        (append-nil r.row.entries))
        (λ h. rw (ne_eqb r.key j (λ e. omega arith), away (λ e. omega arith))))

    pool-above : (k : ℕ) (s : List (Listed A)) → Keyed key s → All (λ q. k < q.key) s → All (λ x. k < key x) (pool_of s)
    unfolding pool_of
    pool-above k [] a h = tt
    pool-above k (r ∷ rs) a h =
        let g : k < r.key = h.0 in
        all_append (λ x. k < key x) r.row.entries (pool_of rs) (all_map (λ x. key x ≡ r.key) (λ x. k < key x) (λ x e. omega arith) r.row.entries a.0) (pool-above k rs a.1 h.1)

    pub pool-sorted : (s : List (Listed A)) → WellFormed s → Keyed key s → Sorted key (pool_of s)
    unfolding pool_of
    pool-sorted [] f a = tt
    pool-sorted (r ∷ rs) f a =
        sorted_join key r.key r.row.entries (pool_of rs) (sorted_flat key r.key r.row.entries a.0) (pool-sorted rs f.2 a.1)
        (all_map (λ x. key x ≡ r.key) (λ x. key x ≤ r.key) (λ x e. omega arith) r.row.entries a.0)
        (all_map (λ x. r.key < key x) (λ x. r.key ≤ key x) (λ x e. omega arith) (pool_of rs) (pool-above r.key rs a.1 f.1))

    -- the keys of the rows are the keys of the pool
    keys_skip : (k : ℕ) (es l : List A) → All (λ x. key x ≡ k) es → keys_from key k (es ++ l) ≡ keys_from key k l
    keys_skip k [] l a = refl
    keys_skip k (x ∷ es) l a = rw (eq-eqb (key x) k a.0) (keys_skip k es l a.1)

    keys_new : (k : ℕ) (l : List A) → All (λ x. k < key x) l → keys_from key k l ≡ keys_of key l
    unfolding keys_of
    keys_new k [] a = refl
    keys_new k (x ∷ l) a = let h : k < key x = a.0 in rw (ne_eqb (key x) k (λ e. omega arith))

    keys_run : (k : ℕ) (es l : List A) → Filled es → All (λ x. key x ≡ k) es → All (λ x. k < key x) l → keys_of key (es ++ l) ≡ k ∷ keys_of key l
    unfolding keys_of
    keys_run k [] l u a h = absurd u
    keys_run k (x ∷ es) l u a h = rw a.0 (ap (λ m. k ∷ m) (keys_skip k es l a.1 ∙ keys_new k l h))

    pub table_keys : (s : List (Listed A)) → WellFormed s → Keyed key s → map row_key (table_of s) ≡ keys_of key (pool_of s)
    unfolding table_of pool_of
    table_keys [] f a = unfold keys_of in refl
    table_keys (r ∷ rs) f a =
        ap (λ m. r.key ∷ m) (table_keys rs f.2 a.1)
        ∙ sym (keys_run r.key r.row.entries (pool_of rs) f.0 a.0 (pool-above r.key rs a.1 f.1))

  -- ---- a row replaced
  module _ (key : A → ℕ) (k : ℕ) (w : Row A) (s : List (Listed A)) (f : WellFormed s) where
    pub pool-put : Keyed key s → All (λ x. key x ≡ k) w.entries → pool_of (put_row k w s) ≡ on_list key k (λ r. w.entries) (pool_of s)
    pool-put a own =
        sorted_determined key (pool_of (put_row k w s)) (on_list key k (λ r. w.entries) (pool_of s)) (pool-sorted key (put_row k w s) (put_formed k w s f) (put_keyed k w key own s a))
        (sorted-on_list key k (λ r. w.entries) (pool_of s) own (pool-sorted key s f a))
        (λ j.
        pool-under key (put_row k w s) (put_formed k w s f) (put_keyed k w key own s a) j
        ∙ by_test (eqb j k)
        (λ e.
        let q : j ≡ k = eqb-true j k e in
        rw (q, put_at_lem k w s f, under-on_list key k (λ r. w.entries) (pool_of s) own) (tidy_entries w))
        (λ e.
        let n : j ≡ k → ⊥ = eqb-false j k e in
        rw (put_other k w s j n, under_other key k (λ r. w.entries) (pool_of s) own j n) (sym (pool-under key s f a j))))

    pub table-put : table_of (put_row k w s) ≡ on_list row_key k (λ r. rows_for k w) (table_of s)
    table-put =
        let own : All (λ r. row_key r ≡ k) (rows_for k w) = own-rows k w w.entries in
        sorted_determined row_key (table_of (put_row k w s)) (on_list row_key k (λ r. rows_for k w) (table_of s)) (table-sorted (put_row k w s) (put_formed k w s f))
        (sorted-on_list row_key k (λ r. rows_for k w) (table_of s) own (table-sorted s f))
        (λ j.
        table-under (put_row k w s) (put_formed k w s f) j
        ∙ by_test (eqb j k)
        (λ e.
        let q : j ≡ k = eqb-true j k e in
        rw (q, put_at_lem k w s f, under-on_list row_key k (λ r. rows_for k w) (table_of s) own) (tidy_rows k w))
        (λ e.
        let n : j ≡ k → ⊥ = eqb-false j k e in
        rw (put_other k w s j n, under_other row_key k (λ r. rows_for k w) (table_of s) own j n) (sym (table-under s f j))))
