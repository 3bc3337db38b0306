-- A map with no mark: its table is made from the pool alone, and every sorted pool has one. Assumes nothing.
use Rattle.basics.specs.Words.{ℕ, ◌<◌, ◌≡◌, refl, ◌∙◌, ap, List, [], ◌∷◌, ◌++◌, map}
use Rattle.storage.specs.Meaning.Keyed.{All, append_all}
use Rattle.storage.specs.Inner.Keyed.{Sorted}
use Rattle.storage.specs.Meaning.Entries.{row_key}
use Rattle.storage.specs.Meaning.CellTable.{fresh}
use Rattle.storage.specs.Inner.Store.{Listed, WellFormed, append}
use Rattle.storage.proofs.laws.Store.{pool_of, table_of}
use Rattle.storage.proofs.laws.Tables.{Keyed, fresh_of, Tabled, cleared}
use Rattle.storage.proofs.laws.KeyedLaws.{sorted_determined}
use Rattle.storage.proofs.laws.AppendLaws.{sorted-append_all, under-append_all}
use Rattle.storage.proofs.laws.OperationLaws.{append_formed, append_keyed}
use Rattle.storage.proofs.laws.TableLaws.{table_keys}
use Rattle.storage.proofs.laws.TableStepLaws.{pool-append}
use Rattle.storage.proofs.laws.StorageLaws.{tabled_of}

pub fresh_is : (pool : List (List ℕ)) → fresh pool ≡ fresh_of row_key pool
unfolding fresh
fresh_is pool = refl

-- ---- the marks of a map cleared
module _ {A : Type 0} where
  cleared-above : (k : ℕ) (s : List (Listed A)) → All (λ q. k < q.key) s → All (λ q. k < q.key) (cleared s)
  unfolding cleared
  cleared-above k [] a = tt
  cleared-above k (r ∷ rs) a = (a.0, cleared-above k rs a.1)

  pub cleared_formed : (s : List (Listed A)) → WellFormed s → WellFormed (cleared s)
  unfolding cleared
  cleared_formed [] f = tt
  cleared_formed (r ∷ rs) f = (f.0, cleared-above r.key rs f.1, cleared_formed rs f.2)

  pub cleared-pool : (s : List (Listed A)) → pool_of (cleared s) ≡ pool_of s
  unfolding cleared pool_of
  cleared-pool [] = refl
  cleared-pool (r ∷ rs) = ap (λ m. r.row.entries ++ m) (cleared-pool rs)

  cleared-rows : (s : List (Listed A)) → table_of (cleared s) ≡ map (λ k. k ∷ 0 ∷ []) (map row_key (table_of s))
  unfolding cleared table_of
  cleared-rows [] = refl
  cleared-rows (r ∷ rs) = ap (λ m. (r.key ∷ 0 ∷ []) ∷ m) (cleared-rows rs)

  module _ (key : A → ℕ) where
    pub cleared_keyed : (s : List (Listed A)) → Keyed key s → Keyed key (cleared s)
    unfolding cleared
    cleared_keyed [] a = tt
    cleared_keyed (r ∷ rs) a = (a.0, cleared_keyed rs a.1)

    pub cleared-table : (s : List (Listed A)) → WellFormed s → Keyed key s → table_of (cleared s) ≡ fresh_of key (pool_of s)
    cleared-table s f a = cleared-rows s ∙ ap (map (λ k. k ∷ 0 ∷ [])) (table_keys key s f a)

-- ---- the map of a sorted pool
module _ {A : Type 0} (key : A → ℕ) where
  -- appending to nothing what is sorted
  pub append_all-sorted : (l : List A) → Sorted key l → append_all key [] l ≡ l
  append_all-sorted l s = sorted_determined key (append_all key [] l) l (sorted-append_all key [] l tt) s (λ k. under-append_all key k [] l)

  abbrev built : List (Listed A) → List A → List (Listed A)
  built s [] = s
  built s (x ∷ l) = built (append (key x) x s) l

  built_formed : (s : List (Listed A)) (l : List A) → WellFormed s → WellFormed (built s l)
  built_formed s [] f = f
  built_formed s (x ∷ l) f = built_formed (append (key x) x s) l (append_formed (key x) s f x)

  built_keyed : (s : List (Listed A)) (l : List A) → WellFormed s → Keyed key s → Keyed key (built s l)
  built_keyed s [] f a = a
  built_keyed s (x ∷ l) f a = built_keyed (append (key x) x s) l (append_formed (key x) s f x) (append_keyed (key x) s f key x refl a)

  built-pool : (s : List (Listed A)) (l : List A) → WellFormed s → Keyed key s → pool_of (built s l) ≡ append_all key (pool_of s) l
  unfolding append_all
  built-pool s [] f a = refl
  built-pool s (x ∷ l) f a =
      built-pool (append (key x) x s) l (append_formed (key x) s f x) (append_keyed (key x) s f key x refl a)
      ∙ ap (λ m. append_all key m l) (pool-append key (key x) s f a x refl)

  -- a sorted pool and the table made from it are the tables of a map
  pub fresh_tabled : (pool : List A) → Sorted key pool → Tabled key (fresh_of key pool) pool
  fresh_tabled pool s =
      let m : List (Listed A) = built [] pool in
      let f : WellFormed m = built_formed [] pool tt in
      let a : Keyed key m = built_keyed [] pool tt tt in
      let p : pool_of m ≡ pool = built-pool [] pool tt tt ∙ unfold pool_of in append_all-sorted pool s in
      let h : Tabled key (table_of (cleared m)) (pool_of (cleared m)) = tabled_of key (cleared m) (cleared_formed m f) (cleared_keyed key m a) in
      rw (cleared-table key m f a, cleared-pool m, p) at h
