-- The row of a key in a table, by place: whether it has one, and what the table is with it, without it, and with its mark set.
-- Assumes nothing.
use Rattle.basics.specs.Words.{ℕ, suc, ◌+◌, ◌<◌, ◌≤◌, ◌≡◌, refl, sym, ap, List, [], ◌∷◌, map, append-nil, length, get_or, set, take, length-append, set_split}
use Rattle.basics.specs.Words.{length-take-le, get_or-take, arith}
use Rattle.storage.specs.Inner.Keyed.{Sorted}
use Rattle.storage.specs.Meaning.Keyed.{below, under, on_list}
use Rattle.storage.specs.Meaning.Entries.{row_key}
use Rattle.storage.specs.Meaning.CellTable.{row_or, entered, dropped, marked}
use Rattle.storage.specs.Inner.Tables.{Rising}
use Rattle.storage.specs.Meaning.Packed.{first}
use Rattle.storage.specs.Inner.Places.{end_of}
use Rattle.storage.proofs.laws.Places.{inserted, removed}
use Rattle.storage.proofs.laws.FilterLaws.{by_order}
use Rattle.storage.proofs.laws.KeyedLaws.{on_list-same}
use Rattle.storage.proofs.laws.TableLaws.{rising-sorted}
use Rattle.storage.proofs.laws.PackedLaws.{rising_at}
use Rattle.storage.proofs.laws.CutLaws.{low, high, upto, take_end, drop_end}
use Rattle.storage.proofs.laws.MoveLaws.{end_most, start_most, below-take}

module _ {A : Type 0} (key : A → ℕ) (d : A) (l : List A) (s : Sorted key l) (k : ℕ) where
  next : end_of key k l ≡ length (below key (suc k) l)
  next = ap length (sym (upto key k l s))

  -- the places of the key's list
  pub key_in_lem : (i : ℕ) → length (below key k l) ≤ i → i < end_of key k l → key (get_or l i d) ≡ k
  key_in_lem i a b =
      let h : i < length l = omega (arith, b, end_most key l s k) in
      by_order (key (get_or l i d)) k
      (λ q. absurd (omega (arith, a, low key k d l s i h q)))
      (λ q. q)
      (λ q. absurd (omega (arith, b, next, high key (suc k) d l s i h q)))

  pub held : length (below key k l) < length l → key (get_or l (length (below key k l)) d) ≡ k → length (below key k l) < end_of key k l
  held h e = omega (arith, next, low key (suc k) d l s (length (below key k l)) h (omega arith))

  pub vacant : (length (below key k l) < length l → key (get_or l (length (below key k l)) d) ≡ k → ⊥) → end_of key k l ≡ length (below key k l)
  vacant n =
      by_order (length (below key k l)) (length l)
      (λ h.
      by_order (key (get_or l (length (below key k l)) d)) k
      (λ q. absurd (omega (arith, low key k d l s (length (below key k l)) h q)))
      (λ q. absurd (n h q))
      (λ q. omega (arith, next, start_most key l s k, high key (suc k) d l s (length (below key k l)) h q)))
      (λ h. omega (arith, start_most key l s k, end_most key l s k))
      (λ h. omega (arith, start_most key l s k, end_most key l s k))

  pub under-size : length (below key k l) + length (under key k l) ≡ end_of key k l
  under-size = sym (length-append (below key k l) (under key k l))

pub one-row : {A : Type 0} (key : A → ℕ) (d : A) (l : List A) → Rising key l → (k : ℕ) → length (below key k l) < end_of key k l → end_of key k l ≡ suc (length (below key k l))
one-row key d l r k h =
    let s = rising-sorted key l r in
    let p : ℕ = length (below key k l) in
    by_order (suc p) (end_of key k l)
    (λ q. absurd (omega (arith, key_in_lem key d l s k p (omega arith) h, key_in_lem key d l s k (suc p) (omega arith) q, rising_at key d l r p (suc p) (omega (arith, q, end_most key l s k)) (omega arith))))
    (λ q. sym q)
    (λ q. absurd (omega arith))

pub nothing : {A : Type 0} (u : List A) → length u ≡ 0 → u ≡ []
nothing [] e = refl
nothing (x ∷ u) e = absurd (omega arith)

only : {A B : Type 0} (v : B) (u : List A) → length u ≡ 1 → map (λ x. v) u ≡ v ∷ []
only v [] e = absurd (omega arith)
only v (x ∷ []) e = refl
only v (x ∷ y ∷ u) e = absurd (omega arith)

kept : (k : ℕ) (u : List (List ℕ)) → 0 < length u → row_or k u ≡ u
kept k [] h = absurd (omega arith)
kept k (r ∷ u) h = refl

module _ (l : List (List ℕ)) (s : Sorted row_key l) (k : ℕ) where
  -- ---- no row
  module _ (e : end_of row_key k l ≡ length (below row_key k l)) where
    pub no_list : under row_key k l ≡ []
    no_list = nothing (under row_key k l) (omega (arith, under-size row_key [] l s k))

    pub entered-new : entered k l ≡ inserted l (length (below row_key k l)) (k ∷ 0 ∷ [])
    unfolding entered on_list
    entered-new = rw (no_list, ← e, take_end row_key k l s, drop_end row_key k l s, no_list) (simp append-nil)

    pub dropped-same : dropped k l ≡ l
    unfolding dropped
    dropped-same = on_list-same row_key k (λ rs. []) l s (sym no_list)

    pub marked-same : marked k l ≡ l
    unfolding marked
    marked-same = on_list-same row_key k (map (λ r. k ∷ 1 ∷ [])) l s (rw no_list)

  pub entered-same : length (below row_key k l) < end_of row_key k l → entered k l ≡ l
  unfolding entered
  entered-same h = on_list-same row_key k (row_or k) l s (kept k (under row_key k l) (omega (arith, under-size row_key [] l s k)))

  -- ---- one row
  module _ (e : end_of row_key k l ≡ suc (length (below row_key k l))) where
    pub dropped-row : dropped k l ≡ removed l (length (below row_key k l))
    unfolding dropped on_list
    dropped-row = rw (← below-take row_key l s k, ← e, drop_end row_key k l s)

    pub marked_row : marked k l ≡ set l (length (below row_key k l)) (k ∷ 1 ∷ [])
    unfolding marked on_list
    marked_row =
        rw (set_split l (length (below row_key k l)) (k ∷ 1 ∷ []) (omega (arith, e, end_most row_key l s k)), ← below-take row_key l s k, ← e, drop_end row_key k l s, only (k ∷ 1 ∷ []) (under row_key k l) (omega (arith, e, under-size row_key [] l s k)))

-- ---- the same of a table's first n rows
module _ (cells : List (List ℕ)) (n : ℕ) (room : n ≤ length cells) (s : Sorted row_key (take n cells)) (k at : ℕ) (e : at ≡ length (below row_key k (take n cells))) where
  pub row_here : at < n → first cells at ≡ k → length (below row_key k (take n cells)) < end_of row_key k (take n cells)
  row_here h q = held row_key [] (take n cells) s k (omega (arith, length-take-le n cells room)) (rw (← e, get_or-take n cells at [] h) q)

  pub row_nowhere : (at < n → first cells at ≡ k → ⊥) → end_of row_key k (take n cells) ≡ length (below row_key k (take n cells))
  row_nowhere f =
      vacant row_key [] (take n cells) s k (λ h q.
      let h' : at < n = omega (arith, length-take-le n cells room) in
      f h' (rw (← e, get_or-take n cells at [] h') at q))
