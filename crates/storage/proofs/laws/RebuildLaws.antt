-- The table of a pool, one entry more at a time: a key that is not that of the entry before has a new row. Assumes nothing.
use Rattle.basics.specs.Words.{ℕ, zero, suc, ◌+◌, ◌-◌, ◌<◌, ◌≤◌, ◌≡◌, refl, sym, ◌∙◌, ap, List, [], ◌∷◌, ◌++◌, map, map-append, append_assoc, append-nil}
use Rattle.basics.specs.Words.{length, get_or, set, take, length-append, length-set, take-suc, eqb, add-one, arith, eqb-true, eqb-false, eq-eqb, ne_eqb}
use Rattle.basics.specs.Meaning.Refusals.{pick}
use Rattle.storage.specs.Meaning.Keyed.{written}
use Rattle.storage.specs.Meaning.Entries.{row_key}
use Rattle.storage.specs.Meaning.CellTable.{keys_from, keys_of, fresh}
use Rattle.storage.specs.Meaning.Packed.{first}
use Rattle.storage.specs.Inner.Checked.{Begins}
use Rattle.storage.proofs.laws.WrittenLaws.{written_next}
use Rattle.storage.proofs.laws.FilterLaws.{by_test, by_order}

module _ {A : Type 0} (key : A → ℕ) where
  -- the keys of one element more
  keys_more : (k : ℕ) (l : List A) (x y : A) → keys_from key k (l ++ (x ∷ y ∷ [])) ≡ keys_from key k (l ++ (x ∷ [])) ++ pick (eqb (key y) (key x)) [] (key y ∷ [])
  keys_more k [] x y =
      by_test (eqb (key x) k)
      (λ e. rw e (ap (λ m. pick (eqb (key y) m) [] (key y ∷ [])) (sym (eqb-true (key x) k e))))
      (λ e. rw e)
  keys_more k (z ∷ l) x y =
      by_test (eqb (key z) k)
      (λ e. rw e (keys_more k l x y))
      (λ e. rw e (ap (λ m. key z ∷ m) (keys_more (key z) l x y)))

  keys_of-more : (l : List A) (x y : A) → keys_of key ((l ++ (x ∷ [])) ++ (y ∷ [])) ≡ keys_of key (l ++ (x ∷ [])) ++ pick (eqb (key y) (key x)) [] (key y ∷ [])
  unfolding keys_of
  keys_of-more [] x y = refl
  keys_of-more (z ∷ l) x y = ap (λ m. key z ∷ m) (ap (keys_from key (key z)) (append_assoc l (x ∷ []) (y ∷ [])) ∙ keys_more (key z) l x y)

-- the rows of keys
abbrev rows_of : List ℕ → List (List ℕ)
rows_of ks = map (λ k. k ∷ 0 ∷ []) ks

module _ (pool : List (List ℕ)) (j : ℕ) (h : j < length pool) where
  two : 0 < j → take (j + 1) pool ≡ (take (j - 1) pool ++ (get_or pool (j - 1) [] ∷ [])) ++ (get_or pool j [] ∷ [])
  two p =
      let e : j ≡ suc (j - 1) = omega arith in
      rw (add-one j, take-suc pool j [] h) (ap (λ m. m ++ (get_or pool j [] ∷ [])) (ap (λ i. take i pool) e ∙ take-suc pool (j - 1) [] (omega arith)))

  one : 0 < j → take j pool ≡ take (j - 1) pool ++ (get_or pool (j - 1) [] ∷ [])
  one p =
      let e : j ≡ suc (j - 1) = omega arith in
      ap (λ i. take i pool) e ∙ take-suc pool (j - 1) [] (omega arith)

  more : 0 < j → fresh (take (j + 1) pool) ≡ fresh (take j pool) ++ rows_of (pick (eqb (first pool j) (first pool (j - 1))) [] (first pool j ∷ []))
  unfolding fresh
  more p = rw (two p, one p, keys_of-more row_key (take (j - 1) pool) (get_or pool (j - 1) []) (get_or pool j []), map-append)

  pub fresh-same : 0 < j → first pool (j - 1) ≡ first pool j → fresh (take (j + 1) pool) ≡ fresh (take j pool)
  fresh-same p e = more p ∙ rw (eq-eqb (first pool j) (first pool (j - 1)) (sym e)) (append-nil (fresh (take j pool)))

  start : 0 ≡ j → fresh (take (j + 1) pool) ≡ fresh (take j pool) ++ ((first pool j ∷ 0 ∷ []) ∷ [])
  unfolding fresh keys_of
  start p = rw (add-one j, take-suc pool j [] h, ← p)

  pub fresh-new : (0 < j → first pool (j - 1) ≡ first pool j → ⊥) → fresh (take (j + 1) pool) ≡ fresh (take j pool) ++ ((first pool j ∷ 0 ∷ []) ∷ [])
  fresh-new n =
      by_order 0 j
      (λ p. more p ∙ rw (ne_eqb (first pool j) (first pool (j - 1)) (λ e. n p (sym e))))
      (λ p. start p)
      (λ p. absurd (omega arith))

  -- one row more at most
  pub fresh_grows : length (fresh (take j pool)) ≤ length (fresh (take (j + 1) pool))
  fresh_grows =
      by_order 0 j
      (λ p. rw (more p, length-append) (omega arith))
      (λ p. rw (start p, length-append) (omega arith))
      (λ p. absurd (omega arith))

pub fresh-none : (pool : List (List ℕ)) → fresh (take 0 pool) ≡ []
unfolding fresh keys_of
fresh-none pool = refl

-- so no more than the whole pool has
pub fresh-most : (pool : List (List ℕ)) (n : ℕ) → n ≤ length pool → (j : ℕ) → j ≤ n → length (fresh (take j pool)) ≤ length (fresh (take n pool))
fresh-most pool zero h j q = let e : j ≡ 0 = omega arith in rw e (omega arith)
fresh-most pool (suc n) h j q =
    by_order j (suc n)
    (λ w. omega (arith, fresh-most pool n (omega arith) j (omega arith), rw add-one at (fresh_grows pool n (omega arith))))
    (λ w. rw w (omega arith))
    (λ w. absurd (omega arith))

-- ---- the table as it stands once the first j entries are passed
pub record Built (cells₀ pool : List (List ℕ)) (j rows : ℕ) (cells : List (List ℕ)) : Type 0 where
  pub count : rows ≡ length (fresh (take j pool))
  pub table : cells ≡ written (fresh (take j pool)) cells₀
  pub size : length cells ≡ length cells₀

module _ (cells₀ pool : List (List ℕ)) (used : ℕ) (room : used ≤ length pool) (fits : length (fresh (take used pool)) ≤ length cells₀) where
  pub built-none : Built cells₀ pool 0 0 cells₀
  built-none = record { count = rw (fresh-none pool); table = rw (fresh-none pool); size = refl }

  module _ (j rows : ℕ) (cells : List (List ℕ)) (h : j < used) (b : Built cells₀ pool j rows cells) where
    grown : Begins pool j → fresh (take (j + 1) pool) ≡ fresh (take j pool) ++ ((first pool j ∷ 0 ∷ []) ∷ [])
    grown n = fresh-new pool j (omega arith) n

    longer : Begins pool j → length (fresh (take (j + 1) pool)) ≡ rows + 1
    longer n = ap length (grown n) ∙ length-append (fresh (take j pool)) ((first pool j ∷ 0 ∷ []) ∷ []) ∙ ap (λ m. m + 1) (sym b.count)

    pub built-room : Begins pool j → rows < length cells
    built-room n = omega (arith, longer n, fresh-most pool used room (j + 1) (omega arith), b.size)

    pub built-more : Begins pool j → Built cells₀ pool (j + 1) (rows + 1) (set cells rows (first pool j ∷ 0 ∷ []))
    built-more n =
        record {
          count = sym (longer n);
          table = rw (b.table, b.count, grown n) (written_next [] (fresh (take j pool)) cells₀ (first pool j ∷ 0 ∷ []) (omega (arith, built-room n, b.size, b.count)));
          size = length-set cells rows (first pool j ∷ 0 ∷ []) ∙ b.size;
        }

    pub built-same : (Begins pool j → ⊥) → Built cells₀ pool (j + 1) rows cells
    built-same n =
        by_order 0 j
        (λ p. by_test (eqb (first pool (j - 1)) (first pool j)) (λ e. kept (fresh-same pool j (omega arith) p (eqb-true _ _ e))) (λ e. absurd (n (λ q. eqb-false _ _ e))))
        (λ p. absurd (n (λ q. absurd (omega arith))))
        (λ p. absurd (omega arith))
      where
        kept : fresh (take (j + 1) pool) ≡ fresh (take j pool) → Built cells₀ pool (j + 1) rows cells
        kept e = record { count = b.count ∙ ap length (sym e); table = b.table ∙ ap (λ m. written m cells₀) (sym e); size = b.size }
