-- Maintain does not depend on the order of visiting the cells: whatever the order, it leaves the tables with everything done that was to be
-- done. Assumes nothing.
use Rattle.basics.specs.Words.{ℕ, ◌<◌, ◌≡◌, refl, sym, ◌∙◌, ap, ap₂, Bool, true, false, List, map, ◌⊎◌, inl, inr, arith, eqb-true}
use Rattle.basics.specs.Inner.Counting.{one}
use Rattle.basics.specs.Meaning.Refusals.{pick}
use Rattle.storage.specs.Meaning.Keyed.{All, under, append_all}
use Rattle.storage.specs.Inner.Keyed.{Sorted}
use Rattle.storage.specs.Meaning.Entries.{Entry, entry_key}
use Rattle.storage.proofs.laws.FilterLaws.{by_test, all_map, all_over}
use Rattle.storage.proofs.laws.KeyedLaws.{sorted_determined}
use Rattle.point_tables.specs.Meaning.Tables.{Tables, slots_of, entries_in, slot_of}
use Rattle.point_tables.specs.Meaning.Holds.{Holds}
use Rattle.point_tables.specs.Inner.Count.{is_live}
use Rattle.point_tables.proofs.laws.ListedLaws.{Named, listing}
use Rattle.point_maintain.specs.Meaning.Maintain.{swept, by_slot, entries_after, maintained_by, cell_keys, maintained}
use Rattle.point_maintain.proofs.laws.Settle.{among, picked}
use Rattle.point_maintain.specs.Inner.Settle.{settled_all}
use Rattle.point_maintain.proofs.laws.SettleAllLaws.{in_agree, over_in}
use Rattle.point_maintain.proofs.laws.Totals.{Alone}
use Rattle.point_maintain.specs.Inner.Kept.{kept}
use Rattle.point_maintain.proofs.laws.WalkLaws.{some, among-times, alone_distinct}
use Rattle.point_maintain.proofs.laws.Closed.{Order}
use Rattle.point_maintain.specs.Inner.Closed.{joined, kept_under, kept_entries, relocated_below, relisted, settled_entries, settled_tables}
use Rattle.point_maintain.proofs.laws.VisitLaws.{joined_all, visited_times}
use Rattle.point_maintain.proofs.laws.CalmLaws.{Calm, clean_calm}
use Rattle.point_maintain.proofs.laws.SweepLaws.{list_under, list_named, kept-own, kept_clean, swept_all}
use Rattle.point_maintain.proofs.laws.RelocatedLaws.{unvisited_clean, visited_once, by_slot_lem}
use Rattle.point_maintain.proofs.laws.CellOrderLaws.{joined-under, joined-sorted, keys_up, keys_distinct, no_list, table-order}
use Rattle.point_maintain.proofs.laws.TallyLaws.{cell_key, entries_alone}

-- ---- each list walked by itself, in the order of the table
module _ (t : Tables) (h : Holds t) where
  pub kept-sorted : Sorted entry_key (kept_entries t)
  unfolding kept_entries
  kept-sorted = joined-sorted entry_key (kept_under t) (kept-own t) (cell_keys t) (keys_up t h)

  pub kept-lists : (k : ℕ) → under entry_key k (kept_entries t) ≡ kept_under t k
  unfolding kept_entries
  kept-lists k = joined-under entry_key (kept_under t) (kept-own t) k (cell_keys t) (keys_distinct t h) ∙ picked (among k (cell_keys t)) (λ e. unfold kept_under kept in rw (no_list t h k e))

-- ---- any order
module _ (t : Tables) (h : Holds t) (ks : List ℕ) (o : Order ks t) where
  visited_alone : Alone slot_of (joined (list_under t) ks)
  visited_alone i =
      rw (visited_times t (entries_in t) (all_map (Named t) _ (λ x m. m.key) (entries_in t) (listing t h).each) ks o.distinct i)
      (by_test (among (cell_key t i) ks) (λ e. rw e (entries_alone t h i)) (λ e. rw e (omega arith)))

  visited_inside : All (λ s. s < slots_of t) (map slot_of (joined (list_under t) ks))
  visited_inside =
      all_over (λ s. s < slots_of t) slot_of (joined (list_under t) ks)
      (joined_all (λ e. slot_of e < slots_of t) (list_under t) (λ k. all_map (Named t) _ (λ e n. n.inside) (list_under t k) (list_named t h k)) ks)

  -- a live slot was visited, or nothing is pending for it; no other was
  visited_or_calm : (i : ℕ) → i < slots_of t → (among i (map slot_of (joined (list_under t) ks)) ≡ is_live t i) ⊎ Calm t i
  visited_or_calm i l = go (is_live t i) refl (among (cell_key t i) ks) refl
    where
      is : among i (map slot_of (joined (list_under t) ks)) ≡ some (pick (among (cell_key t i) ks) (one (is_live t i)) 0)
      is = among-times slot_of i (joined (list_under t) ks) ∙ ap some (visited_once t h ks o i l)

      go : (b : Bool) → is_live t i ≡ b → (a : Bool) → among (cell_key t i) ks ≡ a → (among i (map slot_of (joined (list_under t) ks)) ≡ is_live t i) ⊎ Calm t i
      go false e true q = inl (is ∙ rw (q, e))
      go false e false q = inl (is ∙ rw (q, e))
      go true e true q = inl (is ∙ rw (q, e))
      go true e false q = inr (clean_calm t h i l (eqb-true _ _ e) (unvisited_clean t h ks o (cell_key t i) q))

  -- the records: every live slot is settled
  pub swept-records : (swept t ks).records ≡ settled_all t
  unfolding settled_all
  swept-records =
      (swept_all t h ks o.distinct).records
      ∙ over_in t (slots_of t) (map slot_of (joined (list_under t) ks)) (alone_distinct slot_of (joined (list_under t) ks) visited_alone) visited_inside
      ∙ in_agree (λ i. among i (map slot_of (joined (list_under t) ks))) (is_live t) t (slots_of t) visited_or_calm

  -- the lists: each as its own walk leaves it
  pub swept-lists : (k : ℕ) → under entry_key k (swept t ks).entries ≡ kept_under t k
  swept-lists k = (swept_all t h ks o.distinct).entries k ∙ picked (among k ks) (λ e. sym (kept_clean t h k (unvisited_clean t h ks o k e)))

  pub swept-entries : (swept t ks).entries ≡ kept_entries t
  swept-entries =
      sorted_determined entry_key (swept t ks).entries (kept_entries t) (swept_all t h ks o.distinct).sorted (kept-sorted t h)
      (λ k. swept-lists k ∙ sym (kept-lists t h k))

  -- the relocated: in ascending order of their slots
  pub swept-moving : by_slot (slots_of t) (swept t ks).moving ≡ relocated_below (slots_of t) t
  swept-moving = ap (by_slot (slots_of t)) (swept_all t h ks o.distinct).moving ∙ by_slot_lem t h ks o (slots_of t) (omega arith)

  pub entries-after : entries_after t ks ≡ settled_entries t
  unfolding entries_after settled_entries
  entries-after = ap₂ {C = List Entry} (append_all entry_key) swept-entries swept-moving

  pub maintained-settled : maintained_by ks t ≡ settled_tables t
  unfolding maintained_by settled_tables
  maintained-settled = ap₂ {C = Tables} (λ (r : Tables) (es : List Entry). relisted r es t) swept-records entries-after

-- the cells may be visited in any order: records, lists, counts and marks are the same
pub any_order : (t : Tables) → Holds t → (ks ls : List ℕ) → Order ks t → Order ls t → maintained_by ks t ≡ maintained_by ls t
any_order t h ks ls o p = maintained-settled t h ks o ∙ sym (maintained-settled t h ls p)

pub maintained_is : (t : Tables) → Holds t → maintained t ≡ settled_tables t
unfolding maintained
maintained_is t h = maintained-settled t h (cell_keys t) (table-order t h)
