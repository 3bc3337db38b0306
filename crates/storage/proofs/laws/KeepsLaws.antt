-- Tables written back over the old ones are a storage again, with no more rows than entries; and a column that has the keys is sorted as
-- they are. Assumes nothing.
use Rattle.basics.specs.Words.{ℕ, ◌≤◌, ◌≡◌, List, [], ◌∷◌, map, length, take, drop, length-append, take-append_seam, arith}
use Rattle.storage.specs.Meaning.Keyed.{All, written}
use Rattle.storage.specs.Inner.Keyed.{Sorted}
use Rattle.storage.specs.Meaning.Entries.{row_key}
use Rattle.storage.specs.Meaning.Packed.{Packed}
use Rattle.storage.specs.Inner.Store.{Filled, Listed, WellFormed}
use Rattle.storage.proofs.laws.Store.{pool_of, table_of}
use Rattle.storage.proofs.laws.Tables.{storage_of, Tabled}
use Rattle.storage.proofs.laws.FilterLaws.{all_map, all_over}
use Rattle.storage.proofs.laws.StorageLaws.{tabled_formed, tabled_pool, tabled_table}
use Rattle.storage.proofs.laws.PackedLaws.{tabled_packed}

-- a row for each list, and none is empty
map-within : {A : Type 0} (s : List (Listed A)) → WellFormed s → length (table_of s) ≤ length (pool_of s)
unfolding table_of pool_of
map-within [] f = omega arith
map-within (r ∷ rs) f = omega (arith, map-within rs f.2, length-append r.row.entries (pool_of rs), some r.row.entries f.0)
  where
    some : {A : Type 0} (es : List A) → Filled es → 1 ≤ length es
    some [] u = absurd u
    some (x ∷ es) u = omega arith

module _ {A : Type 0} (key : A → ℕ) (t : List (List ℕ)) (pool : List A) (h : Tabled key t pool) where
  -- no more rows than entries
  pub tabled_within : length t ≤ length pool
  tabled_within = rw (tabled_pool key t pool h, tabled_table key t pool h) at (map-within (storage_of key t pool) (tabled_formed key t pool h))

-- ---- a column that has the keys
module _ {A B : Type 0} (f : A → B) (key_a : A → ℕ) (key_b : B → ℕ) (keeps : (x : A) → key_b (f x) ≡ key_a x) where
  all_under-map : (P : B → Type 0) (l : List A) → All P (map f l) → All (λ x. P (f x)) l
  all_under-map P [] a = tt
  all_under-map P (x ∷ l) a = (a.0, all_under-map P l a.1)

  pub sorted-map : (l : List A) → Sorted key_a l → Sorted key_b (map f l)
  sorted-map [] s = tt
  sorted-map (x ∷ l) s =
      (all_over (λ y. key_b (f x) ≤ key_b y) f l (all_map (λ y. key_a x ≤ key_a y) (λ y. key_b (f x) ≤ key_b (f y)) (λ y h. rw (keeps x, keeps y) h) l s.0), sorted-map l s.1)

  pub map-sorted : (l : List A) → Sorted key_b (map f l) → Sorted key_a l
  map-sorted [] s = tt
  map-sorted (x ∷ l) s =
      (all_map (λ y. key_b (f x) ≤ key_b (f y)) (λ y. key_a x ≤ key_a y) (λ y h. rw (keeps x, keeps y) at h) l (all_under-map (λ y. key_b (f x) ≤ key_b y) l s.0), map-sorted l s.1)

-- ---- written over the old tables
pub written-take : {A : Type 0} (new old : List A) (n : ℕ) → n ≡ length new → take n (written new old) ≡ new
written-take new old n e = rw e (take-append_seam new (drop (length new) old))

pub packed-written : (used rows : ℕ) (l t pool cells : List (List ℕ)) → used ≡ length l → rows ≡ length t → Tabled row_key t l → Packed used rows (written l pool) (written t cells)
packed-written used rows l t pool cells e g h =
    tabled_packed used rows (written l pool) (written t cells)
    (omega (arith, length-append l (drop (length l) pool)))
    (omega (arith, length-append t (drop (length t) cells)))
    (rw (written-take l pool used e, written-take t cells rows g) h)
