-- The lists of the cells in use, one after the other in the order of the table, are sorted, and the table's order is an order of visiting.
-- Assumes nothing.
use Rattle.basics.specs.Words.{ℕ, ◌≤◌, ◌<◌, ◌≡◌, refl, sym, ◌∙◌, ap, true, false, List, [], ◌∷◌, map, append-nil, eqb, arith, eqb-true, eqb-false, ne_eqb}
use Rattle.basics.specs.Meaning.Refusals.{pick}
use Rattle.basics.proofs.laws.Says.{apart}
use Rattle.storage.specs.Meaning.Keyed.{All, under}
use Rattle.storage.specs.Inner.Keyed.{Sorted}
use Rattle.storage.specs.Meaning.Entries.{row_key, entry_key}
use Rattle.storage.specs.Inner.Store.{Filled}
use Rattle.storage.specs.Inner.Tables.{Rising}
use Rattle.storage.proofs.laws.FilterLaws.{by_test, all_map, all_append, all_over, filter-append}
use Rattle.storage.proofs.laws.KeyedLaws.{whole-under, none-under, sorted_flat, sorted_join}
use Rattle.storage.proofs.laws.PackedLaws.{ascending-rising}
use Rattle.point_tables.specs.Meaning.Tables.{Tables, rows_of, entries_in, cell_rows, slot_of}
use Rattle.point_tables.specs.Meaning.Holds.{Holds}
use Rattle.point_maintain.specs.Meaning.Maintain.{is_dirty, cell_keys}
use Rattle.point_maintain.proofs.laws.Settle.{among, Distinct}
use Rattle.point_maintain.proofs.laws.Closed.{Order}
use Rattle.point_maintain.specs.Inner.Closed.{joined}
use Rattle.point_maintain.proofs.laws.CalmLaws.{cell_row}
use Rattle.point_maintain.proofs.laws.SweepLaws.{list_under}
use Rattle.point_tables.proofs.laws.HoldsLaws.{rows_in_cells}
use Rattle.point_tables.proofs.laws.ListedLaws.{Named, listing}

abbrev Up : List ℕ → Type 0
Up ks = Rising (λ k. k) ks

none-among : (k : ℕ) (ks : List ℕ) → All (λ j. k < j) ks → among k ks ≡ false
none-among k [] a = refl
none-among k (j ∷ ks) a = rw (ne_eqb j k (λ e. omega (arith, a.0))) (none-among k ks a.1)

up_distinct : (ks : List ℕ) → Up ks → Distinct ks
up_distinct [] u = tt
up_distinct (k ∷ ks) u = (none-among k ks u.0, up_distinct ks u.1)

up-rows : (rows : List (List ℕ)) → Rising row_key rows → Up (map row_key rows)
up-rows [] r = tt
up-rows (x ∷ rows) r = (all_over (λ j. row_key x < j) row_key rows r.0, up-rows rows r.1)

-- ---- lists of their own keys, one after the other
module _ {A : Type 0} (key : A → ℕ) (f : ℕ → List A) (own : (k : ℕ) → All (λ x. key x ≡ k) (f k)) where
  pub joined-under : (j : ℕ) (ks : List ℕ) → Distinct ks → under key j (joined f ks) ≡ pick (among j ks) (f j) []
  joined-under j [] d = refl
  joined-under j (k ∷ ks) d =
      filter-append (λ x. eqb (key x) j) (f k) (joined f ks)
      ∙ rw (joined-under j ks d.1)
      (by_test (eqb k j)
      (λ e.
      let q : k ≡ j = eqb-true k j e in
      rw (e, ← q, d.0, whole-under key k (f k) (own k)) (append-nil (f k)))
      (λ e. rw (e, none-under key j (f k) (all_map (λ x. key x ≡ k) (λ x. key x ≡ j → ⊥) (λ x p q. eqb-false k j e (sym p ∙ q)) (f k) (own k)))))

  joined_from : (k : ℕ) (ks : List ℕ) → All (λ j. k < j) ks → All (λ x. k ≤ key x) (joined f ks)
  joined_from k [] a = tt
  joined_from k (j ∷ ks) a =
      let l : k < j = a.0 in
      all_append (λ x. k ≤ key x) (f j) (joined f ks) (all_map (λ x. key x ≡ j) (λ x. k ≤ key x) (λ x e. omega arith) (f j) (own j)) (joined_from k ks a.1)

  pub joined-sorted : (ks : List ℕ) → Up ks → Sorted key (joined f ks)
  joined-sorted [] u = tt
  joined-sorted (k ∷ ks) u =
      sorted_join key k (f k) (joined f ks) (sorted_flat key k (f k) (own k)) (joined-sorted ks u.1)
      (all_map (λ x. key x ≡ k) (λ x. key x ≤ k) (λ x e. omega arith) (f k) (own k)) (joined_from k ks u.0)

-- ---- the rows of the table
filled-among : (k : ℕ) (rows : List (List ℕ)) → Filled (under row_key k rows) → among k (map row_key rows) ≡ true
filled-among k [] u = absurd u
filled-among k (r ∷ rows) u = by_test (eqb (row_key r) k) (λ e. rw e) (λ e. rw e (filled-among k rows (rw e at u)))

dirty-among : (k : ℕ) (rows : List (List ℕ)) → is_dirty rows k ≡ true → among k (map row_key rows) ≡ true
dirty-among k [] d = absurd (apart d)
dirty-among k (r ∷ rows) d = by_test (eqb (row_key r) k) (λ e. rw e) (λ e. rw e (dirty-among k rows (rw e at d)))

module _ (t : Tables) (h : Holds t) where
  pub keys_up : Rising (λ k. k) (cell_keys t)
  keys_up = up-rows (cell_rows t) (ascending-rising (rows_of t) t.cells (rows_in_cells t h) h.packed.ascending)

  pub keys_distinct : Distinct (cell_keys t)
  keys_distinct = up_distinct (cell_keys t) keys_up

  -- the order of the table is an order, and so is every other with the same cells
  pub table-order : Order (cell_keys t) t
  table-order = record { distinct = keys_distinct; covers = λ k e. dirty-among k (cell_rows t) e }

  -- a cell that is not in use has no list
  pub no_list : (k : ℕ) → among k (cell_keys t) ≡ false → list_under t k ≡ []
  no_list k n =
      none-under entry_key k (entries_in t)
      (all_map (Named t) (λ e. entry_key e ≡ k → ⊥)
      (λ e m q. apart (sym n ∙ ap (λ (j : ℕ). among j (cell_keys t)) (sym q ∙ m.key) ∙ filled-among _ (cell_rows t) (cell_row t h (slot_of e) m.inside m.occupied)))
      (entries_in t) (listing t h).each)
