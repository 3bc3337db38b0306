-- Maintain never runs out of space: it leaves an entry for each object that is left, and a row for each list. Assumes nothing.
use Rattle.basics.specs.Words.{ℕ, ◌≤◌, ◌≡◌, refl, sym, ◌∙◌, ap, List, map, length, get_or, length-map, arith, eq-eqb, eqb-true}
use Rattle.basics.specs.Inner.Counting.{count_below}
use Rattle.basics.proofs.laws.Counting.{named_count}
use Rattle.storage.specs.Meaning.Entries.{Entry, row_key, row_of, entry_key}
use Rattle.storage.specs.Meaning.CellTable.{fresh}
use Rattle.storage.proofs.laws.Tables.{Tabled}
use Rattle.storage.proofs.laws.FilterLaws.{all_at}
use Rattle.storage.proofs.laws.FreshLaws.{fresh_is, fresh_tabled}
use Rattle.storage.proofs.laws.KeepsLaws.{sorted-map, tabled_within}
use Rattle.point_tables.specs.Meaning.Tables.{Tables, slots_of, slot_of}
use Rattle.point_tables.specs.Meaning.Holds.{Holds}
use Rattle.point_tables.specs.Inner.Count.{is_live}
use Rattle.point_maintain.specs.Meaning.Maintain.{entries_after}
use Rattle.point_maintain.specs.Inner.Settle.{settled_all}
use Rattle.point_maintain.proofs.laws.Closed.{Order}
use Rattle.point_maintain.specs.Inner.Closed.{settled_entries}
use Rattle.point_maintain.proofs.laws.SettledForm.{entries-after}
use Rattle.point_maintain.proofs.laws.RecordsAfterLaws.{all_slots}
use Rattle.point_maintain.proofs.laws.ListsAfterLaws.{after_tally, after_sorted}
use Rattle.point_maintain.proofs.laws.TallyLaws.{from_tally}
use Rattle.point_tables.proofs.laws.EntryLaws.{no_entry}
use Rattle.point_tables.proofs.laws.ListedLaws.{Named, Listing}
use Rattle.point_tables.proofs.laws.Members.{pairs_at, some_at}
use Rattle.point_tables.proofs.laws.RoomLaws.{count_most}

-- entries that name each live slot once are as many as the live slots
pub listing-count : (t : Tables) (es : List Entry) → Listing t es → count_below (is_live t) (slots_of t) ≡ length es
listing-count t es h =
    named_count (length es) (is_live t) (slots_of t) (λ j. slot_of (get_or es j no_entry))
    (record {
      inside = λ j l. (all_at (Named t) no_entry es j l h.each).inside;
      passes = λ j l. eq-eqb _ _ (all_at (Named t) no_entry es j l h.each).occupied;
      once = pairs_at _ no_entry es h.once;
      every = λ s l e. some_at _ no_entry es (h.every s l (eqb-true _ _ e));
    })

module _ (t : Tables) (h : Holds t) where
  pub after-count : length (settled_entries t) ≡ count_below (is_live (settled_all t)) (slots_of t)
  after-count = sym (listing-count (settled_all t) (settled_entries t) (from_tally (settled_all t) (settled_entries t) (after_tally t h))) ∙ ap (count_below (is_live (settled_all t))) (all_slots t h)

  pub after-most : length (settled_entries t) ≤ slots_of t
  after-most = rw after-count (count_most (is_live (settled_all t)) (slots_of t))

  -- the rows are those of the lists, and no more than the entries
  pub after_tabled : Tabled row_key (fresh (map row_of (settled_entries t))) (map row_of (settled_entries t))
  after_tabled =
      rw (fresh_is (map row_of (settled_entries t)))
      (fresh_tabled row_key (map row_of (settled_entries t)) (sorted-map row_of entry_key row_key (λ e. refl) (settled_entries t) (after_sorted t h)))

  pub after-rows-most : length (fresh (map row_of (settled_entries t))) ≤ slots_of t
  after-rows-most =
      omega (arith, tabled_within row_key (fresh (map row_of (settled_entries t))) (map row_of (settled_entries t)) after_tabled, length-map (settled_entries t) row_of, after-most)

  -- whatever the order
  pub space : (ks : List ℕ) → Order ks t → (length (entries_after t ks) ≤ slots_of t) × (length (fresh (map row_of (entries_after t ks))) ≤ slots_of t)
  space ks o = rw (entries-after t h ks o) (after-most, after-rows-most)
