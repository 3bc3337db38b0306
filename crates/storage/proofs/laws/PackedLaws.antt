-- `Packed` says that the tables are those of a well-formed map, so that no cell has two lists and each entry in use is in one.
-- Assumes nothing.
use Rattle.basics.specs.Words.{ℕ, zero, suc, ◌≤◌, ◌<◌, ◌≡◌, sym, subst, List, [], ◌∷◌, length, get_or, take, drop, take-append-drop, get_or-take, length-take-le}
use Rattle.basics.specs.Words.{eqb, not-suc-le-zero, le_of_suc-le-suc, arith, eqb-true}
use Rattle.storage.specs.Meaning.Keyed.{All, under}
use Rattle.storage.specs.Inner.Keyed.{Sorted}
use Rattle.storage.specs.Meaning.Entries.{row_key, row_item}
use Rattle.storage.specs.Meaning.Packed.{first, Packed}
use Rattle.storage.specs.Inner.Store.{Filled, Listed, WellFormed}
use Rattle.storage.proofs.laws.Store.{pool_of, table_of}
use Rattle.storage.specs.Inner.Tables.{Rising}
use Rattle.storage.proofs.laws.Tables.{Keyed, storage_of, Tabled}
use Rattle.storage.proofs.laws.FilterLaws.{by_test, all_at, all_of, all_front}
use Rattle.storage.proofs.laws.StorageLaws.{own-filled, tabled_of, tabled_formed, tabled_pool, tabled_table, storage_keyed}

-- ---- order by places, and order as a list
module _ {A : Type 0} (key : A → ℕ) (d : A) where
  pub sorted_from : (l : List A) → ((i j : ℕ) → j < length l → i ≤ j → key (get_or l i d) ≤ key (get_or l j d)) → Sorted key l
  sorted_from [] f = tt
  sorted_from (x ∷ l) f =
      (all_of (λ y. key x ≤ key y) d l (λ i h. f 0 (suc i) (omega arith) (omega arith)), sorted_from l (λ i j h g. f (suc i) (suc j) (omega arith) (omega arith)))

  pub sorted_at : (l : List A) → Sorted key l → (i j : ℕ) → j < length l → i ≤ j → key (get_or l i d) ≤ key (get_or l j d)
  sorted_at [] s i j h g = absurd (not-suc-le-zero h)
  sorted_at (x ∷ l) s zero zero h g = omega arith
  sorted_at (x ∷ l) s zero (suc j) h g = all_at (λ y. key x ≤ key y) d l j (le_of_suc-le-suc h) s.0
  sorted_at (x ∷ l) s (suc i) zero h g = absurd (not-suc-le-zero g)
  sorted_at (x ∷ l) s (suc i) (suc j) h g = sorted_at l s.1 i j (le_of_suc-le-suc h) (le_of_suc-le-suc g)

  pub rising_from : (l : List A) → ((i j : ℕ) → j < length l → i < j → key (get_or l i d) < key (get_or l j d)) → Rising key l
  rising_from [] f = tt
  rising_from (x ∷ l) f =
      (all_of (λ y. key x < key y) d l (λ i h. f 0 (suc i) (omega arith) (omega arith)), rising_from l (λ i j h g. f (suc i) (suc j) (omega arith) (omega arith)))

  pub rising_at : (l : List A) → Rising key l → (i j : ℕ) → j < length l → i < j → key (get_or l i d) < key (get_or l j d)
  rising_at [] s i j h g = absurd (not-suc-le-zero h)
  rising_at (x ∷ l) s i zero h g = absurd (not-suc-le-zero g)
  rising_at (x ∷ l) s zero (suc j) h g = all_at (λ y. key x < key y) d l j (le_of_suc-le-suc h) s.0
  rising_at (x ∷ l) s (suc i) (suc j) h g = rising_at l s.1 i j (le_of_suc-le-suc h) (le_of_suc-le-suc g)

  -- a list that is not empty has a place
  pub filled_at : (l : List A) (i k : ℕ) → i < length l → key (get_or l i d) ≡ k → Filled (under key k l)
  filled_at l i k h e = subst (λ j. Filled (under key j l)) e (all_at (λ x. Filled (under key (key x) l)) d l i h (own-filled key l))

  pub filled-place : (l : List A) (k : ℕ) → Filled (under key k l) → (i : ℕ) × (i < length l) × (key (get_or l i d) ≡ k)
  filled-place [] k u = absurd u
  filled-place (x ∷ l) k u =
      by_test (eqb (key x) k)
      (λ e. (0, omega arith, eqb-true (key x) k e))
      (λ e. let p = filled-place l k (rw e at u) in (suc p.0, omega (arith, p.1), p.2))

-- ---- the first n rows of a table
module _ (n : ℕ) (l : List (List ℕ)) (room : n ≤ length l) where
  n_is : length (take n l) ≡ n
  n_is = length-take-le n l room

  -- every fact of the first n, by places and as a list
  pub all_first : (P : List ℕ → Type 0) → ((i : ℕ) → i < n → P (get_or l i [])) → All P (take n l)
  all_first P f = all_of P [] (take n l) (λ i h. let h' : i < n = rw n_is at h in rw (get_or-take n l i [] h') (f i h'))

  pub first_all : (P : List ℕ → Type 0) → All P (take n l) → (i : ℕ) → i < n → P (get_or l i [])
  first_all P a i h = rw (get_or-take n l i [] h) at (all_at P [] (take n l) i (rw n_is h) a)

  pub ordered-sorted : ((i j : ℕ) → j < n → i ≤ j → first l i ≤ first l j) → Sorted row_key (take n l)
  ordered-sorted f =
      sorted_from row_key [] (take n l)
      (λ i j h g. let h' : j < n = rw n_is at h in rw (get_or-take n l i [] (omega arith), get_or-take n l j [] h') (f i j h' g))

  pub sorted-ordered : Sorted row_key (take n l) → (i j : ℕ) → j < n → i ≤ j → first l i ≤ first l j
  sorted-ordered s i j h g = rw (get_or-take n l i [] (omega arith), get_or-take n l j [] h) at (sorted_at row_key [] (take n l) s i j (rw n_is h) g)

  pub ascending-rising : ((i j : ℕ) → j < n → i < j → first l i < first l j) → Rising row_key (take n l)
  ascending-rising f =
      rising_from row_key [] (take n l)
      (λ i j h g. let h' : j < n = rw n_is at h in rw (get_or-take n l i [] (omega arith), get_or-take n l j [] h') (f i j h' g))

  pub rising-ascending : Rising row_key (take n l) → (i j : ℕ) → j < n → i < j → first l i < first l j
  rising-ascending s i j h g = rw (get_or-take n l i [] (omega arith), get_or-take n l j [] h) at (rising_at row_key [] (take n l) s i j (rw n_is h) g)

  pub place-filled : (k i : ℕ) → i < n → first l i ≡ k → Filled (under row_key k (take n l))
  place-filled k i h e = filled_at row_key [] (take n l) i k (rw n_is h) (rw (get_or-take n l i [] h) e)

  pub filled-first : (k : ℕ) → Filled (under row_key k (take n l)) → (i : ℕ) × (i < n) × (first l i ≡ k)
  filled-first k u =
      let p = filled-place row_key [] (take n l) k u in
      let h : p.0 < n = rw n_is at p.1 in
      (p.0, h, rw (get_or-take n l p.0 [] h) at p.2)

-- the first rows of the two tables are the tables of the map s
pub record Stored (used rows : ℕ) (pool cells : List (List ℕ)) (s : List (Listed (List ℕ))) : Type 0 where
  pub formed : WellFormed s
  pub keyed : Keyed row_key s
  pub pool_is : take used pool ≡ pool_of s
  pub table_is : take rows cells ≡ table_of s

module _ (used rows : ℕ) (pool cells : List (List ℕ)) (most : used ≤ length pool) (most_rows : rows ≤ length cells) where
  pub packed_tabled : All (λ r. length r ≡ 2) cells → Packed used rows pool cells → Tabled row_key (take rows cells) (take used pool)
  packed_tabled two p = record {
    sorted = ordered-sorted used pool most p.ordered;
    rising = ascending-rising rows cells most_rows p.ascending;
    has_row = all_first used pool most (λ x. Filled (under row_key (row_key x) (take rows cells))) (λ j h. let q = p.has_row j h in place-filled rows cells most_rows (first pool j) q.0 q.1 q.2);
    has_list = all_first rows cells most_rows (λ r. Filled (under row_key (row_key r) (take used pool))) (λ r h. let q = p.has_list r h in place-filled used pool most (first cells r) q.0 q.1 q.2);
    pairs = all_front (λ r. length r ≡ 2) (take rows cells) (drop rows cells) (rw (take-append-drop rows cells) two);
    marks = all_first rows cells most_rows (λ r. row_item r ≤ 1) p.marks;
  }

  pub tabled_packed : Tabled row_key (take rows cells) (take used pool) → Packed used rows pool cells
  tabled_packed t = record {
    ordered = sorted-ordered used pool most t.sorted;
    ascending = rising-ascending rows cells most_rows t.rising;
    has_row = λ j h. filled-first rows cells most_rows (first pool j) (first_all used pool most (λ x. Filled (under row_key (row_key x) (take rows cells))) t.has_row j h);
    has_list = λ r h. filled-first used pool most (first cells r) (first_all rows cells most_rows (λ q. Filled (under row_key (row_key q) (take used pool))) t.has_list r h);
    marks = first_all rows cells most_rows (λ r. row_item r ≤ 1) t.marks;
  }

  -- the map, and back
  pub packed-map : All (λ r. length r ≡ 2) cells → Packed used rows pool cells → Stored used rows pool cells (storage_of row_key (take rows cells) (take used pool))
  packed-map two p =
      let t = packed_tabled two p in
      record {
        formed = tabled_formed row_key (take rows cells) (take used pool) t;
        keyed = storage_keyed row_key (take rows cells) (take used pool);
        pool_is = sym (tabled_pool row_key (take rows cells) (take used pool) t);
        table_is = sym (tabled_table row_key (take rows cells) (take used pool) t);
      }

  pub map-packed : (s : List (Listed (List ℕ))) → Stored used rows pool cells s → Packed used rows pool cells
  map-packed s m = tabled_packed (rw (m.pool_is, m.table_is) (tabled_of row_key s m.formed m.keyed))
