-- The lists walked one after the other: what stands in the records, in the lists and among the relocated once some cells were visited.
-- Assumes nothing.
use Rattle.basics.specs.Words.{ℕ, ◌≡◌, refl, sym, ◌∙◌, ap, ap₂, Bool, true, false, List, [], ◌∷◌, ◌++◌, map, map-append, append-nil, append_assoc, length, eqb}
use Rattle.basics.specs.Words.{arith, eqb-true, eqb-false}
use Rattle.basics.specs.Inner.Counting.{one}
use Rattle.basics.specs.Meaning.Refusals.{pick}
use Rattle.basics.proofs.laws.Says.{apart}
use Rattle.storage.specs.Meaning.Keyed.{All, under, on_list}
use Rattle.storage.specs.Inner.Keyed.{Sorted}
use Rattle.storage.specs.Meaning.Entries.{Entry, entry_key}
use Rattle.storage.proofs.laws.FilterLaws.{by_test, all_map, all_both, all_over, filter_all}
use Rattle.storage.proofs.laws.KeyedLaws.{all_under, under-on_list, under_other, sorted-on_list}
use Rattle.point_records.specs.declared.State.{State}
use Rattle.point_records.specs.declared.State.TheVariants.{Unchanged, NewPos, Relocate, Removed}
use Rattle.point_records.specs.declared.Record.{Record}
use Rattle.point_tables.specs.Meaning.Tables.{Tables, size_of, slots_of, record_on, entries_in, cell_rows, slot_of}
use Rattle.point_tables.specs.Meaning.Holds.{Holds}
use Rattle.point_maintain.specs.Meaning.Walk.{settled, stays, fate_by, fate, staying, leaving, walk}
use Rattle.point_maintain.specs.Meaning.Maintain.{is_dirty, Sweep, visit, sweep, swept}
use Rattle.point_maintain.proofs.laws.SettleLaws.{settled-size, settled_other}
use Rattle.point_maintain.proofs.laws.Settle.{among, Distinct, settled_over}
use Rattle.point_maintain.proofs.laws.SettleAllLaws.{over_append}
use Rattle.point_maintain.proofs.laws.Totals.{Alone, times}
use Rattle.point_maintain.proofs.laws.TotalLaws.{filter-most}
use Rattle.point_maintain.proofs.laws.Kept.{moving}
use Rattle.point_maintain.proofs.laws.KeptLaws.{kept_all, kept_same, parts_same, kept_calm, moving_calm}
use Rattle.point_maintain.proofs.laws.WalkLaws.{some, among-times, list_walked}
use Rattle.point_maintain.specs.Inner.Closed.{joined, kept_under}
use Rattle.point_maintain.proofs.laws.VisitLaws.{among-append, distinct_front, distinct_new, joined-one, visited_times}
use Rattle.point_maintain.proofs.laws.CalmLaws.{Calm, calm_fate, calm_over, clean_calm}
use Rattle.point_maintain.proofs.laws.TallyLaws.{entries_alone}
use Rattle.point_tables.proofs.laws.HoldsLaws.{entries_sorted}
use Rattle.point_tables.proofs.laws.ListedLaws.{Named, listing}

-- ---- a slot that is not among those settled is as it was
pub over_other : (t : Tables) (ss : List ℕ) (j : ℕ) → among j ss ≡ false → record_on (settled_over t ss) j ≡ record_on t j
unfolding settled_over
over_other t [] j e = refl
over_other t (s ∷ ss) j e =
    by_test (eqb s j)
    (λ q. absurd (apart (sym (rw q at e))))
    (λ q. over_other (settled t s) ss j (rw q at e) ∙ settled_other t s j (λ z. eqb-false s j q (sym z)))

pub over_size : (t : Tables) (ss : List ℕ) → size_of (settled_over t ss) ≡ size_of t
unfolding settled_over
over_size t [] = refl
over_size t (s ∷ ss) = over_size (settled t s) ss ∙ settled-size t s

-- ---- an entry that stays keeps its key
pub staying-key : (k size : ℕ) (e : Entry) (st : State) → entry_key e ≡ k → All (λ x. entry_key x ≡ k) (staying (fate_by size e st))
staying-key k size e Unchanged q = (q, tt)
staying-key k size e (NewPos p) q = (q, tt)
staying-key k size e (Relocate p c) q = tt
staying-key k size e Removed q = tt

pub kept-own : (t : Tables) (k : ℕ) → All (λ x. entry_key x ≡ k) (kept_under t k)
unfolding kept_under
kept-own t k =
    kept_all (fate t) (λ x. entry_key x ≡ k) (λ x. entry_key x ≡ k) (λ e q. staying-key k (size_of t) e (record_on t (slot_of e)).state q)
    (under entry_key k (entries_in t)) (all_under entry_key k (entries_in t))

module _ (t : Tables) where
  abbrev pub list_under : ℕ → List Entry
  list_under k = under entry_key k (entries_in t)

  abbrev pub moving_under : ℕ → List Entry
  moving_under k = moving (fate t) (list_under k)

  -- the cells of `done` were visited, and w has come of it
  pub record Swept (done : List ℕ) (w : Sweep) : Type 0 where
    pub records : w.records ≡ settled_over t (map slot_of (joined list_under done))
    pub entries : (j : ℕ) → under entry_key j w.entries ≡ pick (among j done) (kept_under t j) (list_under j)
    pub sorted : Sorted entry_key w.entries
    pub moving : w.moving ≡ joined moving_under done

module _ (t : Tables) (h : Holds t) (k : ℕ) where
  pub list_named : All (Named t) (list_under t k)
  list_named = filter_all _ (Named t) (entries_in t) (listing t h).each

  list_own : All (λ e. entry_key e ≡ k) (list_under t k)
  list_own = all_under entry_key k (entries_in t)

  list_alone : Alone slot_of (list_under t k)
  list_alone i = omega (arith, filter-most (λ e. one (eqb (slot_of e) i)) (λ e. eqb (entry_key e) k) (entries_in t), entries_alone t h i)

  -- nothing is pending in a cell with no mark
  list_calm : is_dirty (cell_rows t) k ≡ false → All (λ e. Calm t (slot_of e)) (list_under t k)
  list_calm d =
      all_both (Named t) (λ e. entry_key e ≡ k) _
      (λ e n q. clean_calm t h (slot_of e) n.inside n.occupied (rw (← n.key, q) d))
      (list_under t k) list_named list_own

  list_stays : is_dirty (cell_rows t) k ≡ false → All (λ e. fate t e ≡ stays e) (list_under t k)
  list_stays d = all_map (λ e. Calm t (slot_of e)) (λ e. fate t e ≡ stays e) (λ e c. calm_fate t e c) (list_under t k) (list_calm d)

  pub kept_clean : is_dirty (cell_rows t) k ≡ false → kept_under t k ≡ list_under t k
  unfolding kept_under
  kept_clean d = kept_calm (fate t) (list_under t k) (list_stays d)

  pub moving_clean : is_dirty (cell_rows t) k ≡ false → moving_under t k ≡ []
  moving_clean d = moving_calm (fate t) (list_under t k) (list_stays d)

  module _ (done : List ℕ) (d : Distinct done) (new : among k done ≡ false) (w : Sweep) (sw : Swept t done w) where
    -- the list, and the records of its slots, are as they were
    list_is : under entry_key k w.entries ≡ list_under t k
    list_is = sw.entries k ∙ rw new

    records_were : All (λ e. record_on w.records (slot_of e) ≡ record_on t (slot_of e)) (list_under t k)
    records_were =
        all_both (Named t) (λ e. entry_key e ≡ k) _
        (λ e n q.
        let none : times slot_of (slot_of e) (joined (list_under t) done) ≡ 0 =
        visited_times t (entries_in t) (all_map (Named t) _ (λ x m. m.key) (entries_in t) (listing t h).each) done d (slot_of e) ∙ rw (← n.key, q, new) in
        rw sw.records (over_other t (map slot_of (joined (list_under t) done)) (slot_of e) (among-times slot_of (slot_of e) (joined (list_under t) done) ∙ ap some none)))
        (list_under t k) list_named list_own

    size-was : size_of w.records ≡ size_of t
    size-was = rw sw.records (over_size t (map slot_of (joined (list_under t) done)))

    fates_were : All (λ e. fate w.records e ≡ fate t e) (list_under t k)
    fates_were =
        all_map (λ e. record_on w.records (slot_of e) ≡ record_on t (slot_of e)) _
        (λ e q. ap₂ (λ (size : ℕ) (r : Record). fate_by size e r.state) size-was q) (list_under t k) records_were

    -- ---- the list walked
    over_list : settled_over w.records (map slot_of (list_under t k)) ≡ settled_over t (map slot_of (joined (list_under t) (done ++ (k ∷ []))))
    over_list =
        ap (λ (r : Tables). settled_over r (map slot_of (list_under t k))) sw.records
        ∙ sym (over_append t (map slot_of (joined (list_under t) done)) (map slot_of (list_under t k)))
        ∙ ap (settled_over t) (sym (map-append slot_of (joined (list_under t) done) (list_under t k)) ∙ ap (map slot_of) (sym (joined-one (list_under t) done k)))

    walked : walk (length (list_under t k)) w.records (list_under t k)
        ≡ record { records = settled_over t (map slot_of (joined (list_under t) (done ++ (k ∷ [])))); kept = kept_under t k; moving = moving_under t k }
    unfolding kept_under
    walked =
        list_walked w.records (list_under t k) list_alone (slots_of t) (all_map (Named t) _ (λ e n. n.inside) (list_under t k) list_named)
        ∙ rw (over_list, kept_same (fate w.records) (fate t) (list_under t k) fates_were, parts_same leaving (fate w.records) (fate t) (length (list_under t k)) (list_under t k) fates_were)

    or_not : (b : Bool) → pick b true false ≡ b
    or_not b = by_test b (λ e. rw e) (λ e. rw e)

    -- ---- a dirty cell
    lists-after : (j : ℕ) → under entry_key j (on_list entry_key k (λ m. kept_under t k) w.entries) ≡ pick (among j (done ++ (k ∷ []))) (kept_under t j) (list_under t j)
    lists-after j =
        by_test (eqb k j)
        (λ e.
        let q : k ≡ j = eqb-true k j e in
        rw (among-append j done (k ∷ []), e, ← q, new) (under-on_list entry_key k (λ m. kept_under t k) w.entries (kept-own t k)))
        (λ e.
        let q : j ≡ k → ⊥ = λ z. eqb-false k j e (sym z) in
        rw (among-append j done (k ∷ []), e, or_not (among j done)) (under_other entry_key k (λ m. kept_under t k) w.entries (kept-own t k) j q ∙ sw.entries j))

    swept-dirty : is_dirty (cell_rows t) k ≡ true → Swept t (done ++ (k ∷ [])) (visit (cell_rows t) w k)
    unfolding visit
    swept-dirty e =
        rw (e, list_is, walked)
        (record {
          records = refl;
          entries = lists-after;
          sorted = sorted-on_list entry_key k (λ m. kept_under t k) w.entries (kept-own t k) sw.sorted;
          moving = ap (λ (l : List Entry). l ++ moving_under t k) sw.moving ∙ sym (joined-one (moving_under t) done k);
        })

    -- ---- a cell that is passed over
    lists_clean : is_dirty (cell_rows t) k ≡ false → (j : ℕ) → under entry_key j w.entries ≡ pick (among j (done ++ (k ∷ []))) (kept_under t j) (list_under t j)
    lists_clean e j = sw.entries j ∙ rw (among-append j done (k ∷ [])) (go (among j done) (eqb k j) refl)
      where
        go : (a b : Bool) → eqb k j ≡ b → pick a (kept_under t j) (list_under t j) ≡ pick (pick a true (pick b true false)) (kept_under t j) (list_under t j)
        go true b q = refl
        go false true q = rw (← eqb-true k j q) (sym (kept_clean e))
        go false false q = refl

    records_clean : is_dirty (cell_rows t) k ≡ false → w.records ≡ settled_over t (map slot_of (joined (list_under t) (done ++ (k ∷ []))))
    records_clean e =
        sym (calm_over w.records (map slot_of (list_under t k))
        (all_over (Calm w.records) slot_of (list_under t k)
        (all_both (λ x. record_on w.records (slot_of x) ≡ record_on t (slot_of x)) (λ x. Calm t (slot_of x)) _ (λ x q c. ap (λ (r : Record). r.state) q ∙ c) (list_under t k) records_were (list_calm e))))
        ∙ over_list

    swept_clean : is_dirty (cell_rows t) k ≡ false → Swept t (done ++ (k ∷ [])) (visit (cell_rows t) w k)
    unfolding visit
    swept_clean e =
        rw e
        (record {
          records = records_clean e;
          entries = lists_clean e;
          sorted = sw.sorted;
          moving = sw.moving ∙ sym (append-nil (joined (moving_under t) done)) ∙ sym (ap (λ (l : List Entry). joined (moving_under t) done ++ l) (moving_clean e)) ∙ sym (joined-one (moving_under t) done k);
        })

    visit-swept : Swept t (done ++ (k ∷ [])) (visit (cell_rows t) w k)
    visit-swept = by_test (is_dirty (cell_rows t) k) swept-dirty swept_clean

-- ---- all the cells of an order
module _ (t : Tables) (h : Holds t) where
  sweep-swept : (ks done : List ℕ) → Distinct (done ++ ks) → (w : Sweep) → Swept t done w → Swept t (done ++ ks) (sweep (cell_rows t) w ks)
  unfolding sweep
  sweep-swept [] done d w sw = rw (append-nil done) sw
  sweep-swept (k ∷ ks) done d w sw =
      let first = distinct_front done (k ∷ ks) d in
      let assoc : (done ++ (k ∷ [])) ++ ks ≡ done ++ (k ∷ ks) = append_assoc done (k ∷ []) ks in
      rw assoc at
      (sweep-swept ks (done ++ (k ∷ [])) (rw assoc d) (visit (cell_rows t) w k)
      (visit-swept t h k done first (distinct_new done k ks d) w sw))

  pub swept_all : (ks : List ℕ) → Distinct ks → Swept t ks (swept t ks)
  unfolding swept
  swept_all ks d = sweep-swept ks [] d (record { records = t; entries = entries_in t; moving = [] }) (record { records = unfold settled_over in refl; entries = λ j. refl; sorted = entries_sorted t h; moving = refl })
