-- The relocated entries, whatever the order of the cells: sorted by slot they are those that the records say. Assumes nothing.
use Rattle.basics.specs.Words.{ℕ, zero, suc, ◌+◌, ◌*◌, ◌≤◌, ◌<◌, ◌≡◌, refl, sym, ◌∙◌, ap, ap₂, Bool, true, false, List, [], ◌∷◌, ◌++◌, length, eqb, add-mul}
use Rattle.basics.specs.Words.{zero-add, arith, eqb-true, eq-eqb}
use Rattle.basics.specs.Inner.Counting.{one}
use Rattle.basics.specs.Meaning.Refusals.{pick}
use Rattle.basics.proofs.laws.Says.{apart}
use Rattle.slots.specs.Meaning.Slot.{live, phase_at}
use Rattle.storage.specs.Meaning.Keyed.{All, filter}
use Rattle.storage.specs.Meaning.Entries.{Entry}
use Rattle.storage.proofs.laws.FilterLaws.{by_test, all_map, all_any, all_both, filter_all, filter_gives}
use Rattle.point_records.specs.declared.State.{State}
use Rattle.point_records.specs.declared.State.TheVariants.{Unchanged, NewPos, Relocate, Removed}
use Rattle.point_tables.specs.Meaning.Tables.{Tables, size_of, slots_of, record_on, entries_in, cell_rows, slot_of}
use Rattle.point_tables.specs.Meaning.Holds.{Holds}
use Rattle.point_tables.specs.Inner.Count.{is_live}
use Rattle.point_tables.proofs.laws.ListedLaws.{Named, listing}
use Rattle.point_maintain.specs.Meaning.Walk.{fate_by, fate, leaving}
use Rattle.point_maintain.specs.Meaning.Maintain.{is_dirty, by_slot}
use Rattle.point_maintain.proofs.laws.Settle.{among}
use Rattle.point_maintain.proofs.laws.Totals.{total, times}
use Rattle.point_maintain.proofs.laws.TotalLaws.{total-append, total-same, total-filter, total-length}
use Rattle.point_maintain.proofs.laws.KeptLaws.{parts_all, parts_total}
use Rattle.point_maintain.proofs.laws.Closed.{Order}
use Rattle.point_maintain.specs.Inner.Closed.{joined, relocated_by, relocated_at, relocated_below}
use Rattle.point_maintain.proofs.laws.VisitLaws.{joined_all, visited_times}
use Rattle.point_maintain.proofs.laws.CalmLaws.{Calm, clean_calm}
use Rattle.point_maintain.proofs.laws.SweepLaws.{list_under, moving_under, list_named}
use Rattle.point_maintain.proofs.laws.TallyLaws.{tally, cell_key}

-- a list of as many elements as r, each of which is all of r
only_one : {A : Type 0} (r m : List A) → length m ≡ length r → All (λ x. r ≡ x ∷ []) m → m ≡ r
only_one [] [] e a = refl
only_one (y ∷ r) [] e a = absurd (omega arith)
only_one r (x ∷ m) e a = none m (omega (arith, e, ap length a.0)) ∙ sym a.0
  where
    none : (m : List _) → length m ≡ 0 → x ∷ m ≡ x ∷ []
    none [] q = refl
    none (y ∷ m) q = absurd (omega arith)

filter-length : {A : Type 0} (test : A → Bool) (l : List A) → length (filter test l) ≡ total (λ x. one (test x)) l
filter-length test l = sym (total-length (filter test l)) ∙ total-filter (λ x. 1) test l

-- ---- totals over joined lists, and of a number for each that passes
pub joined_totals : {A B : Type 0} (m : A → ℕ) (n : B → ℕ) (f : ℕ → List A) (g : ℕ → List B) → ((k : ℕ) → total m (f k) ≡ total n (g k)) → (ks : List ℕ) → total m (joined f ks) ≡ total n (joined g ks)
joined_totals m n f g e [] = refl
joined_totals m n f g e (k ∷ ks) =
    total-append m (f k) (joined f ks) ∙ ap₂ ◌+◌ (e k) (joined_totals m n f g e ks) ∙ sym (total-append n (g k) (joined g ks))

pub total-times : {A : Type 0} (test : A → Bool) (c : ℕ) (l : List A) → total (λ x. pick (test x) c 0) l ≡ total (λ x. one (test x)) l * c
total-times test c [] = omega arith
total-times test c (x ∷ l) =
    by_test (test x)
    (λ e. rw (e, total-times test c l) (sym (add-mul 1 (total (λ y. one (test y)) l) c ∙ ap (λ (k : ℕ). k + total (λ y. one (test y)) l * c) (omega arith))))
    (λ e. rw (e, total-times test c l) (simp zero-add))

-- ---- one entry
pub none_either : (b : Bool) → ◌≡◌ {A = ℕ} 0 (pick b 0 0)
none_either true = refl
none_either false = refl

leaving-times : (size : ℕ) (e : Entry) (i : ℕ) (st : State) → times slot_of i (leaving (fate_by size e st)) ≡ pick (eqb (slot_of e) i) (length (relocated_by size i st)) 0
leaving-times size e i Unchanged = none_either (eqb (slot_of e) i)
leaving-times size e i (NewPos p) = none_either (eqb (slot_of e) i)
leaving-times size e i (Relocate p c) = by_test (eqb (slot_of e) i) (λ q. rw q) (λ q. rw q)
leaving-times size e i Removed = none_either (eqb (slot_of e) i)

leaving-own : (size : ℕ) (e : Entry) (st : State) → All (λ x. (slot_of x ≡ slot_of e) × (relocated_by size (slot_of e) st ≡ x ∷ [])) (leaving (fate_by size e st))
leaving-own size e Unchanged = tt
leaving-own size e (NewPos p) = tt
leaving-own size e (Relocate p c) = ((refl, refl), tt)
leaving-own size e Removed = tt

module _ (t : Tables) where
  -- an entry that leaves is the one that its slot's record says
  leaving-said : (e : Entry) → Named t e → All (λ x. relocated_at t (slot_of x) ≡ x ∷ []) (leaving (fate t e))
  leaving-said e n =
      all_map (λ x. (slot_of x ≡ slot_of e) × (relocated_by (size_of t) (slot_of e) (record_on t (slot_of e)).state ≡ x ∷ [])) _
      (λ x q. ap (relocated_at t) q.0 ∙ rw (eq-eqb (phase_at t.nums (slot_of e)) live n.occupied) q.1)
      (leaving (fate t e)) (leaving-own (size_of t) e (record_on t (slot_of e)).state)

  leaving-count : (i : ℕ) (e : Entry) → times slot_of i (leaving (fate t e)) ≡ pick (eqb (slot_of e) i) (length (relocated_by (size_of t) i (record_on t i).state)) 0
  leaving-count i e =
      leaving-times (size_of t) e i (record_on t (slot_of e)).state
      ∙ by_test (eqb (slot_of e) i)
      (λ q. rw (q, eqb-true (slot_of e) i q))
      (λ q. rw q)

module _ (t : Tables) (h : Holds t) (ks : List ℕ) (o : Order ks t) where
  abbrev all_moving : List Entry
  all_moving = joined (moving_under t) ks

  said : All (λ x. relocated_at t (slot_of x) ≡ x ∷ []) all_moving
  said =
      joined_all (λ x. relocated_at t (slot_of x) ≡ x ∷ []) (moving_under t)
      (λ k. parts_all leaving (fate t) (Named t) (λ x. relocated_at t (slot_of x) ≡ x ∷ []) (leaving-said t) (length (list_under t k)) (list_under t k) (list_named t h k)) ks

  -- a cell that is not visited is not dirty
  pub unvisited_clean : (k : ℕ) → among k ks ≡ false → is_dirty (cell_rows t) k ≡ false
  unvisited_clean k n = by_test (is_dirty (cell_rows t) k) (λ e. absurd (apart (sym n ∙ o.covers k e))) (λ e. e)

  pub visited_once : (i : ℕ) → i < slots_of t → times slot_of i (joined (list_under t) ks) ≡ pick (among (cell_key t i) ks) (one (is_live t i)) 0
  visited_once i l =
      visited_times t (entries_in t) (all_map (Named t) _ (λ x m. m.key) (entries_in t) (listing t h).each) ks o.distinct i
      ∙ rw ((tally t h).once i l)

  moving-times : (i : ℕ) → i < slots_of t → times slot_of i all_moving ≡ length (relocated_at t i)
  moving-times i l =
      joined_totals _ (λ e. times slot_of i (leaving (fate t e))) (moving_under t) (list_under t) (λ k. parts_total leaving (fate t) (λ e. one (eqb (slot_of e) i)) (length (list_under t k)) (list_under t k) (omega arith)) ks
      ∙ total-same _ (λ e. pick (eqb (slot_of e) i) c 0) (joined (list_under t) ks) (all_any _ (leaving-count t i) (joined (list_under t) ks))
      ∙ total-times (λ e. eqb (slot_of e) i) c (joined (list_under t) ks)
      ∙ rw (visited_once i l) (go (is_live t i) refl (among (cell_key t i) ks) refl)
    where
      c : ℕ
      c = length (relocated_by (size_of t) i (record_on t i).state)

      go : (b : Bool) → is_live t i ≡ b → (a : Bool) → among (cell_key t i) ks ≡ a → pick a (one b) 0 * c ≡ length (pick b (relocated_by (size_of t) i (record_on t i).state) [])
      go false e true q = omega arith
      go false e false q = omega arith
      go true e true q = omega arith
      go true e false q =
          let calm : Calm t i = clean_calm t h i l (eqb-true _ _ e) (unvisited_clean (cell_key t i) q) in
          rw calm (omega arith)

  pub slot-moving : (i : ℕ) → i < slots_of t → filter (λ e. eqb (slot_of e) i) all_moving ≡ relocated_at t i
  slot-moving i l =
      only_one (relocated_at t i) (filter (λ e. eqb (slot_of e) i) all_moving) (filter-length (λ e. eqb (slot_of e) i) all_moving ∙ moving-times i l)
      (all_both (λ x. slot_of x ≡ i) (λ x. relocated_at t (slot_of x) ≡ x ∷ []) _
      (λ x q r. ap (relocated_at t) (sym q) ∙ r) (filter (λ e. eqb (slot_of e) i) all_moving)
      (filter_gives (λ e. eqb (slot_of e) i) (λ x. slot_of x ≡ i) (λ x e. eqb-true (slot_of x) i e) all_moving)
      (filter_all (λ e. eqb (slot_of e) i) _ all_moving said))

  pub by_slot_lem : (n : ℕ) → n ≤ slots_of t → by_slot n all_moving ≡ relocated_below n t
  unfolding by_slot relocated_below
  by_slot_lem zero l = refl
  by_slot_lem (suc n) l = ap₂ {C = List Entry} ◌++◌ (by_slot_lem n (omega arith)) (slot-moving n l)
