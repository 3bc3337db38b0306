-- The columns of a pool whose used part is a sorted list: what an append and a taking out do to each. Assumes nothing.
use Rattle.basics.specs.Words.{ℕ, ◌<◌, ◌≤◌, ◌≡◌, refl, sym, ◌∙◌, ap, List, map, length, get_or, set, take, length-append, length-map, length-take-le, arith}
use lib.Ieee.{Float}
use Rattle.storage.specs.Inner.Keyed.{Sorted}
use Rattle.storage.specs.Meaning.Keyed.{below, under, written, append1}
use Rattle.storage.specs.Meaning.Entries.{row_key, row_of, spot_of, entry_key, entries_of}
use Rattle.storage.specs.Inner.Places.{end_of, opened, closed}
use Rattle.storage.proofs.laws.Places.{inserted, swapped}
use Rattle.storage.proofs.laws.ColumnLaws.{map_below, map-under, zipped-rows, zipped-spots}
use Rattle.storage.proofs.laws.KeepsLaws.{map-sorted}
use Rattle.storage.proofs.laws.PlaceLaws.{written-opened, written_swapped, map-inserted, map_swapped}
use Rattle.storage.proofs.laws.MoveLaws.{end_most, append-placed}

-- ---- one column of a list
module _ {A B : Type 0} (key : A → ℕ) (l : List A) (s : Sorted key l) (f : A → B) (t : List B) (used : ℕ) (col : map f l ≡ take used t) where
  size : used ≤ length t → length l ≡ used
  size h = sym (length-map l f) ∙ ap length col ∙ length-take-le used t h

  pub append_column : (e : A) → used < length t → opened t (end_of key (key e) l) used (f e) ≡ written (map f (append1 key l e)) t
  append_column e h =
      let p : ℕ = end_of key (key e) l in
      let m : p ≤ used = omega (arith, end_most key l s (key e), size (omega arith)) in
      sym (ap (λ m. written m t) (ap (map f) (append-placed key l s e) ∙ map-inserted f l p e ∙ ap (λ m. inserted m p (f e)) col) ∙ written-opened t p used (f e) m h)

  pub take_column : (d : A) (i j : ℕ) → i ≤ j → j < used → used ≤ length t → closed (set t i (get_or t j (f d))) j used ≡ written (map f (swapped d l i j)) t
  take_column d i j a b h = sym (ap (λ m. written m t) (map_swapped f d l i j ∙ ap (λ m. swapped (f d) m i j) col) ∙ written_swapped (f d) t i j used a b h)

-- ---- what the keys of a column say of the list
module _ {A B : Type 0} (f : A → B) (key : B → ℕ) where
  pub sorted_column : (l : List A) → Sorted key (map f l) → Sorted (λ x. key (f x)) l
  sorted_column l s = map-sorted f (λ x. key (f x)) key (λ x. refl) l s

  pub start_column : (k : ℕ) (l : List A) → length (below (λ x. key (f x)) k l) ≡ length (below key k (map f l))
  start_column k l = sym (length-map (below (λ x. key (f x)) k l) f) ∙ ap length (map_below f (λ x. key (f x)) key (λ x. refl) k l)

  pub end_column : (k : ℕ) (l : List A) → end_of (λ x. key (f x)) k l ≡ end_of key k (map f l)
  end_column k l =
      length-append (below (λ x. key (f x)) k l) (under (λ x. key (f x)) k l)
      ∙ rw (start_column k l, sym (length-map (under (λ x. key (f x)) k l) f), map-under f (λ x. key (f x)) key (λ x. refl) k l) (sym (length-append (below key k (map f l)) (under key k (map f l))))

-- ---- the pool of points
module _ (pool : List (List ℕ)) (spots : List (List Float)) (used : ℕ) (in_pool : used ≤ length pool) (in_spots : used ≤ length spots) where
  pub rows_column : map row_of (entries_of pool spots used) ≡ take used pool
  rows_column = zipped-rows (take used pool) (take used spots) (omega (arith, length-take-le used pool in_pool, length-take-le used spots in_spots))

  pub spots_column : map spot_of (entries_of pool spots used) ≡ take used spots
  spots_column = zipped-spots (take used pool) (take used spots) (omega (arith, length-take-le used pool in_pool, length-take-le used spots in_spots))

  pub sorted_entries : Sorted row_key (take used pool) → Sorted entry_key (entries_of pool spots used)
  sorted_entries s = sorted_column row_of row_key (entries_of pool spots used) (rw rows_column s)

  pub end_entries : (k : ℕ) → end_of entry_key k (entries_of pool spots used) ≡ end_of row_key k (take used pool)
  end_entries k = end_column row_of row_key k (entries_of pool spots used) ∙ ap (end_of row_key k) rows_column

-- ---- the pool of rows alone
module _ (pool : List (List ℕ)) (used : ℕ) (in_pool : used ≤ length pool) (s : Sorted row_key (take used pool)) where
  pub end_within : (k : ℕ) → end_of row_key k (take used pool) ≤ used
  end_within k = omega (arith, end_most row_key (take used pool) s k, length-take-le used pool in_pool)

  pub append-rows : (row : List ℕ) → used < length pool → opened pool (end_of row_key (row_key row) (take used pool)) used row ≡ written (append1 row_key (take used pool) row) pool
  append-rows row h = sym (ap (λ m. written m pool) (append-placed row_key (take used pool) s row) ∙ written-opened pool (end_of row_key (row_key row) (take used pool)) used row (end_within (row_key row)) h)
