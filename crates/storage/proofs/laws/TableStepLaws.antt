-- Each operation on the map is the operation on its two tables. Assumes nothing.
use Rattle.basics.specs.Words.{ℕ, ◌≡◌, refl, sym, ◌∙◌, ap, Bool, true, List, [], ◌∷◌, ◌++◌, map, nil≢cons}
use Rattle.basics.specs.Meaning.Refusals.{pick}
use Rattle.storage.specs.Meaning.Keyed.{under, on_list, append1, take_out}
use Rattle.storage.specs.Meaning.Entries.{row_key}
use Rattle.storage.specs.Meaning.CellTable.{row_or, entered, dropped, marked}
use Rattle.storage.specs.Inner.Store.{Listed, WellFormed, row_at, append, remove, mark}
use Rattle.storage.proofs.laws.Store.{pool_of, table_of}
use Rattle.storage.proofs.laws.Tables.{rows_by, rows_for, Keyed}
use Rattle.storage.proofs.laws.FilterLaws.{all_append}
use Rattle.storage.proofs.laws.KeyedLaws.{on_list_agree, on_list-same}
use Rattle.storage.proofs.laws.TakeOutLaws.{all_take_out}
use Rattle.storage.proofs.laws.StoreLaws.{row_at_empty, row_at_keyed}
use Rattle.storage.proofs.laws.OperationLaws.{with_list, as_dirty}
use Rattle.storage.proofs.laws.TableLaws.{is_nil, table-under, table-sorted, pool-under, pool-sorted, pool-put, table-put}

module _ {A : Type 0} (key : A → ℕ) (k : ℕ) (s : List (Listed A)) (f : WellFormed s) (a : Keyed key s) where
  -- ---- append
  pub pool-append : (e : A) → key e ≡ k → pool_of (append k e s) ≡ append1 key (pool_of s) e
  unfolding append append1
  pool-append e q =
      pool-put key k (with_list k ((row_at s k).entries ++ (e ∷ [])) s) s f a (all_append (λ x. key x ≡ k) (row_at s k).entries (e ∷ []) (row_at_keyed key s a k) (q, tt))
      ∙ on_list_agree key k (λ r. (row_at s k).entries ++ (e ∷ [])) (λ r. r ++ (e ∷ [])) (pool_of s) (ap (λ r. r ++ (e ∷ [])) (sym (pool-under key s f a k)))
      ∙ ap (λ j. on_list key j (λ r. r ++ (e ∷ [])) (pool_of s)) (sym q)

  pub table-append : (e : A) → table_of (append k e s) ≡ entered k (table_of s)
  unfolding append entered
  table-append e =
      table-put key k (with_list k ((row_at s k).entries ++ (e ∷ [])) s) s f
      ∙ on_list_agree row_key k (λ r. rows_for k (with_list k ((row_at s k).entries ++ (e ∷ [])) s)) (row_or k) (table_of s) (go (row_at s k).entries refl ∙ ap (row_or k) (sym (table-under s f k)))
    where
      go : (es : List A) → (row_at s k).entries ≡ es → rows_by k (with_list k (es ++ (e ∷ [])) s) (es ++ (e ∷ [])) ≡ row_or k (rows_by k (row_at s k) es)
      go [] q = rw (row_at_empty s f k q)
      go (x ∷ es) q = refl

  -- ---- remove: the table loses the row where the list becomes empty
  pub pool-remove : (test : A → Bool) → pool_of (remove k test s) ≡ on_list key k (take_out test) (pool_of s)
  unfolding remove
  pool-remove test =
      pool-put key k (with_list k (take_out test (row_at s k).entries) s) s f a (all_take_out (λ x. key x ≡ k) test (row_at s k).entries (row_at_keyed key s a k))
      ∙ on_list_agree key k (λ r. take_out test (row_at s k).entries) (take_out test) (pool_of s) (ap (take_out test) (sym (pool-under key s f a k)))

  pub table-remove : (test : A → Bool) → table_of (remove k test s) ≡ pick (is_nil (take_out test (under key k (pool_of s)))) (dropped k (table_of s)) (table_of s)
  unfolding remove dropped
  table-remove test =
      table-put key k (with_list k (take_out test (row_at s k).entries) s) s f
      ∙ rw (pool-under key s f a k) (go (row_at s k).entries refl (take_out test (row_at s k).entries) refl)
    where
      go : (es : List A) → (row_at s k).entries ≡ es → (rest : List A) → take_out test es ≡ rest
          → on_list row_key k (λ r. rows_by k (with_list k rest s) rest) (table_of s) ≡ pick (is_nil rest) (on_list row_key k (λ rs. []) (table_of s)) (table_of s)
      go es q [] p = refl
      go [] q (x ∷ rest) p = absurd (nil≢cons p)
      go (y ∷ es) q (x ∷ rest) p =
          on_list-same row_key k (λ r. rows_by k (with_list k (x ∷ rest) s) (x ∷ rest)) (table_of s) (table-sorted s f)
          (sym (table-under s f k ∙ ap (rows_by k (row_at s k)) q))

  -- ---- mark
  pub pool-mark : pool_of (mark k s) ≡ pool_of s
  unfolding mark
  pool-mark =
      pool-put key k (as_dirty k s) s f a (row_at_keyed key s a k)
      ∙ on_list-same key k (λ r. (row_at s k).entries) (pool_of s) (pool-sorted key s f a) (sym (pool-under key s f a k))

  pub table-mark : table_of (mark k s) ≡ marked k (table_of s)
  unfolding mark marked
  table-mark =
      table-put key k (as_dirty k s) s f
      ∙ on_list_agree row_key k (λ r. rows_for k (as_dirty k s)) (map (λ r. k ∷ 1 ∷ [])) (table_of s) (go (row_at s k).entries ∙ ap (map (λ r. k ∷ 1 ∷ [])) (sym (table-under s f k)))
    where
      go : (es : List A) → rows_by k (record { dirty = true; entries = es }) es ≡ map (λ r. k ∷ 1 ∷ []) (rows_by k (row_at s k) es)
      go [] = refl
      go (x ∷ es) = refl
