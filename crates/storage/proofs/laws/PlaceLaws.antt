-- Elements that come in, go, or change places, by place and for any type of elements; and one column of a table of which this is a
-- part. Assumes nothing.
use Rattle.basics.specs.Words.{ℕ, zero, suc, ◌+◌, ◌-◌, ◌<◌, ◌≤◌, ◌≡◌, refl, sym, ◌∙◌, ap, List, [], ◌∷◌, ◌++◌, map, map-append, append_assoc, length, get_or, set}
use Rattle.basics.specs.Words.{take, drop, length-append, length-set, length-drop, take-append-drop, get_or-map, slice, take-take, length-take-le}
use Rattle.basics.specs.Words.{length-slice, get_or-take, take-set-lt, drop-set-lt, set-get_or, add-one, arith}
use Rattle.storage.specs.Meaning.Keyed.{written}
use Rattle.storage.proofs.laws.FilterLaws.{by_order}
use Rattle.storage.specs.Inner.Places.{opened, closed}
use Rattle.storage.proofs.laws.Places.{inserted, removed, swapped}

module _ {A : Type 0} where
  pub written_same : (s : List A) (k : ℕ) → k ≤ length s → written (take k s) s ≡ s
  written_same s k h = rw (length-take-le k s h) (take-append-drop k s)

  -- ---- what a table is after its used part has one element more, or one less
  pub written-opened : (s : List A) (p k : ℕ) (v : A) → p ≤ k → k < length s → written (inserted (take k s) p v) s ≡ opened s p k v
  written-opened s p k v h l =
      let n : length (inserted (take k s) p v) ≡ k + 1 =
      rw (length-append, take-take p k s h, length-take-le p s (omega arith), length-slice p k s (omega arith)) (omega arith) in
      rw (n, take-take p k s h) (append_assoc (take p s) (v ∷ slice p k s) (drop (k + 1) s))

  pub written-closed : (s : List A) (p k : ℕ) → p < k → k ≤ length s → written (removed (take k s) p) s ≡ closed s p k
  written-closed s p k h l =
      let n : length (removed (take k s) p) ≡ k - 1 =
      rw (length-append, take-take p k s (omega arith), length-take-le p s (omega arith), length-slice (suc p) k s l) (omega arith) in
      rw (n, take-take p k s (omega arith), add-one p) (append_assoc (take p s) (slice (suc p) k s) (drop (k - 1) s))

  pub written-set : (s : List A) (p k : ℕ) (v : A) → p < k → k ≤ length s → written (set (take k s) p v) s ≡ set s p v
  written-set s p k v h l =
      let n : length (take k (set s p v)) ≡ k = length-take-le k (set s p v) (rw (length-set s p v) l) in
      rw (← take-set-lt k s p v h, n, ← drop-set-lt k s p v h) (take-append-drop k (set s p v))

  pub length_inserted : (l : List A) (p : ℕ) (v : A) → p ≤ length l → length (inserted l p v) ≡ length l + 1
  length_inserted l p v h = rw (length-append, length-take-le p l h, length-drop) (omega arith)

  pub length_removed : (l : List A) (p : ℕ) → p < length l → length (removed l p) ≡ length l - 1
  length_removed l p h = rw (length-append, length-take-le p l (omega arith), length-drop) (omega arith)

  pub length_swapped : (d : A) (l : List A) (i j : ℕ) → j < length l → length (swapped d l i j) ≡ length l - 1
  length_swapped d l i j h = length_removed (set l i (get_or l j d)) j (rw (length-set l i (get_or l j d)) h) ∙ simp length-set

  -- past the used part nothing changes, if an element of it moved to a lower place of it
  past : (d : A) (s : List A) (i j k : ℕ) → i ≤ j → j < k → drop (k - 1) (set s i (get_or s j d)) ≡ drop (k - 1) s
  past d s i j k h l =
      by_order i j
      (λ q. drop-set-lt (k - 1) s i (get_or s j d) (omega arith))
      (λ q. rw (← q, set-get_or s i d))
      (λ q. absurd (omega arith))

  pub written_swapped : (d : A) (s : List A) (i j k : ℕ) → i ≤ j → j < k → k ≤ length s → written (swapped d (take k s) i j) s ≡ closed (set s i (get_or s j d)) j k
  written_swapped d s i j k h l m =
      let v : A = get_or s j d in
      let n : length (removed (take k (set s i v)) j) ≡ k - 1 =
      rw (length-append, take-take j k (set s i v) (omega arith), length-take-le j (set s i v) (rw (length-set s i v) (omega arith)), length-slice (suc j) k (set s i v) (rw (length-set s i v) m)) (omega arith) in
      rw (get_or-take k s j d l, ← take-set-lt k s i v (omega arith))
      (ap (λ m. removed (take k (set s i v)) j ++ m) (rw n (sym (past d s i j k h l))) ∙ written-closed (set s i v) j k l (rw (length-set s i v) m))

-- ---- a column of it: what f takes of each element
module _ {A B : Type 0} (f : A → B) where
  pub map-take : (n : ℕ) (l : List A) → map f (take n l) ≡ take n (map f l)
  map-take zero l = refl
  map-take (suc n) [] = refl
  map-take (suc n) (x ∷ l) = ap (λ m. f x ∷ m) (map-take n l)

  pub map-drop : (n : ℕ) (l : List A) → map f (drop n l) ≡ drop n (map f l)
  map-drop zero l = refl
  map-drop (suc n) [] = refl
  map-drop (suc n) (x ∷ l) = map-drop n l

  pub map-set : (l : List A) (i : ℕ) (v : A) → map f (set l i v) ≡ set (map f l) i (f v)
  map-set [] i v = refl
  map-set (x ∷ l) zero v = refl
  map-set (x ∷ l) (suc i) v = ap (λ m. f x ∷ m) (map-set l i v)

  pub map-inserted : (l : List A) (p : ℕ) (v : A) → map f (inserted l p v) ≡ inserted (map f l) p (f v)
  map-inserted l p v = rw (map-append f (take p l) (v ∷ drop p l), map-take p l, map-drop p l)

  pub map-removed : (l : List A) (p : ℕ) → map f (removed l p) ≡ removed (map f l) p
  map-removed l p = rw (map-append f (take p l) (drop (suc p) l), map-take p l, map-drop (suc p) l)

  pub map_swapped : (d : A) (l : List A) (i j : ℕ) → map f (swapped d l i j) ≡ swapped (f d) (map f l) i j
  map_swapped d l i j =
      map-removed (set l i (get_or l j d)) j
      ∙ ap (λ m. removed m j) (map-set l i (get_or l j d) ∙ ap (set (map f l) i) (sym (get_or-map f l j d)))
