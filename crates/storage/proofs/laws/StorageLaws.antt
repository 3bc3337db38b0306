-- The tables of a well-formed map are packed, and packed tables are those of one map. Assumes nothing.
use Rattle.basics.specs.Words.{ℕ, zero, suc, ◌≤◌, ◌<◌, ◌≡◌, refl, sym, ◌∙◌, ap, subst, Bool, true, false, List, [], ◌∷◌, length, eqb, arith, eqb-true, eq-eqb}
use Rattle.storage.specs.Meaning.Keyed.{All, under}
use Rattle.storage.specs.Meaning.Entries.{row_key, row_item}
use Rattle.storage.specs.Inner.Store.{Filled, Row, Listed, empty_row, WellFormed, row_at}
use Rattle.storage.proofs.laws.Store.{mark_of, pool_of, table_of}
use Rattle.storage.specs.Inner.Tables.{Rising}
use Rattle.storage.proofs.laws.Tables.{rows_by, Keyed, storage_of, Tabled}
use Rattle.storage.proofs.laws.FilterLaws.{by_test, all_map, all_any}
use Rattle.storage.proofs.laws.KeyedLaws.{all_under, sorted_determined}
use Rattle.storage.proofs.laws.TableLaws.{table-under, table_all, table-rising, pool-under, pool-sorted}

module _ {A : Type 0} (key : A → ℕ) where
  filled_more : (k : ℕ) (x : A) (l : List A) → Filled (under key k l) → Filled (under key k (x ∷ l))
  filled_more k x l u =
      by_test (eqb (key x) k)
      (λ e. rw e tt)
      (λ e. rw e u)

  -- each element is in the list of its key
  pub own-filled : (l : List A) → All (λ x. Filled (under key (key x) l)) l
  own-filled [] = tt
  own-filled (x ∷ l) =
      (rw (eq-eqb (key x) (key x) refl) tt, all_map (λ y. Filled (under key (key y) l)) (λ y. Filled (under key (key y) (x ∷ l))) (λ y u. filled_more (key y) x l u) l (own-filled l))

  -- what holds of the list of each key holds of a list that is not empty
  pub none-listed : (P : ℕ → Type 0) (l : List A) → All (λ x. P (key x)) l → (j : ℕ) → (P j → ⊥) → under key j l ≡ []
  none-listed P [] a j n = refl
  none-listed P (x ∷ l) a j n =
      by_test (eqb (key x) j)
      (λ e. absurd (n (subst P (eqb-true (key x) j e) a.0)))
      (λ e. rw e (none-listed P l a.1 j n))

pair_is : (r : List ℕ) → length r ≡ 2 → row_key r ∷ row_item r ∷ [] ≡ r
pair_is [] e = absurd (omega arith)
pair_is (a ∷ []) e = absurd (omega arith)
pair_is (a ∷ b ∷ []) e = refl
pair_is (a ∷ b ∷ c ∷ r) e = absurd (omega arith)

mark_is : (n : ℕ) → n ≤ 1 → mark_of (eqb n 1) ≡ n
mark_is zero h = refl
mark_is (suc zero) h = refl
mark_is (suc (suc n)) h = absurd (omega arith)

mark-small : (b : Bool) → mark_of b ≤ 1
mark-small true = omega arith
mark-small false = omega arith

module _ {A : Type 0} (key : A → ℕ) where
  -- ---- the tables of a map
  row-filled : (j : ℕ) (w : Row A) (es : List A) → Filled es → Filled (rows_by j w es)
  row-filled j w [] u = u
  row-filled j w (x ∷ es) u = tt

  list_filled : (j : ℕ) (w : Row A) (es : List A) → Filled (rows_by j w es) → Filled es
  list_filled j w [] u = u
  list_filled j w (x ∷ es) u = tt

  pub tabled_of : (s : List (Listed A)) → WellFormed s → Keyed key s → Tabled key (table_of s) (pool_of s)
  tabled_of s f a = record {
    sorted = pool-sorted key s f a;
    rising = table-rising s f;
    has_row = all_map (λ x. Filled (under key (key x) (pool_of s))) (λ x. Filled (under row_key (key x) (table_of s))) (λ x u. rw (table-under s f (key x)) (row-filled (key x) (row_at s (key x)) (row_at s (key x)).entries (rw (pool-under key s f a (key x)) at u))) (pool_of s) (own-filled key (pool_of s));
    has_list = all_map (λ r. Filled (under row_key (row_key r) (table_of s))) (λ r. Filled (under key (row_key r) (pool_of s))) (λ r u. rw (pool-under key s f a (row_key r)) (list_filled (row_key r) (row_at s (row_key r)) (row_at s (row_key r)).entries (rw (table-under s f (row_key r)) at u))) (table_of s) (own-filled row_key (table_of s));
    pairs = table_all (λ r. length r ≡ 2) s (all_any (λ r. 2 ≡ 2) (λ r. refl) s);
    marks = table_all (λ r. row_item r ≤ 1) s (all_any (λ r. mark_of r.row.dirty ≤ 1) (λ r. mark-small r.row.dirty) s);
  }

  -- ---- the map of two tables: the row of cell j, from the rows of j in the table
  abbrev pub by_rows : List A → ℕ → List (List ℕ) → Row A
  by_rows pool j [] = empty_row
  by_rows pool j (r ∷ rs) = record { dirty = eqb (row_item r) 1; entries = under key j pool }

  pub storage_at : (t : List (List ℕ)) (pool : List A) (j : ℕ) → row_at (storage_of key t pool) j ≡ by_rows pool j (under row_key j t)
  unfolding storage_of row_at
  storage_at [] pool j = refl
  storage_at (r ∷ t) pool j =
      by_test (eqb (row_key r) j)
      (λ e. rw (e, eqb-true (row_key r) j e))
      (λ e. rw e (storage_at t pool j))

  storage_above : (k : ℕ) (t : List (List ℕ)) (pool : List A) → All (λ r. k < row_key r) t → All (λ q. k < q.key) (storage_of key t pool)
  unfolding storage_of
  storage_above k [] pool a = tt
  storage_above k (r ∷ t) pool a = (a.0, storage_above k t pool a.1)

  pub storage_formed : (t : List (List ℕ)) (pool : List A) → Rising row_key t → All (λ r. Filled (under key (row_key r) pool)) t → WellFormed (storage_of key t pool)
  unfolding storage_of
  storage_formed [] pool r u = tt
  storage_formed (q ∷ t) pool r u = (u.0, storage_above (row_key q) t pool r.0, storage_formed t pool r.1 u.1)

  pub storage_keyed : (t : List (List ℕ)) (pool : List A) → Keyed key (storage_of key t pool)
  unfolding storage_of
  storage_keyed [] pool = tt
  storage_keyed (r ∷ t) pool = (all_under key (row_key r) pool, storage_keyed t pool)

  pub storage_table : (t : List (List ℕ)) (pool : List A) → All (λ r. length r ≡ 2) t → All (λ r. row_item r ≤ 1) t → table_of (storage_of key t pool) ≡ t
  unfolding storage_of table_of
  storage_table [] pool a m = refl
  storage_table (r ∷ t) pool a m =
      rw (mark_is (row_item r) m.0, pair_is r a.0) (ap (λ q. r ∷ q) (storage_table t pool a.1 m.1))

  module _ (t : List (List ℕ)) (pool : List A) (h : Tabled key t pool) where
    pub tabled_formed : WellFormed (storage_of key t pool)
    tabled_formed = storage_formed t pool h.rising h.has_list

    pub tabled_list : (j : ℕ) → (row_at (storage_of key t pool) j).entries ≡ under key j pool
    tabled_list j = rw (storage_at t pool j) (go (under row_key j t) refl)
      where
        go : (rs : List (List ℕ)) → under row_key j t ≡ rs → (by_rows pool j rs).entries ≡ under key j pool
        go [] e = sym (none-listed key (λ i. Filled (under row_key i t)) pool h.has_row j (λ u. subst Filled e u))
        go (r ∷ rs) e = refl

    -- the tables come back
    pub tabled_pool : pool_of (storage_of key t pool) ≡ pool
    tabled_pool =
        sorted_determined key (pool_of (storage_of key t pool)) pool (pool-sorted key (storage_of key t pool) tabled_formed (storage_keyed t pool)) h.sorted
        (λ j. pool-under key (storage_of key t pool) tabled_formed (storage_keyed t pool) j ∙ tabled_list j)

    pub tabled_table : table_of (storage_of key t pool) ≡ t
    tabled_table = storage_table t pool h.pairs h.marks
