-- Maintain leaves tables that hold a grid, with nothing pending and no mark set; and what it leaves of each object. Assumes nothing.
use Rattle.basics.specs.Words.{ℕ, ◌≤◌, ◌<◌, ◌≡◌, refl, sym, ◌∙◌, ap, true, [], ◌∷◌, map, length, drop, length-map, get_or-append, arith, eq-eqb}
use Rattle.basics.specs.Inner.Counting.{one}
use Rattle.slots.specs.Meaning.Map.{head}
use Rattle.slots.specs.Meaning.Slot.{live, phase_at, SlotsHold}
use Rattle.storage.specs.Meaning.Keyed.{All}
use Rattle.storage.specs.Meaning.Entries.{Entry, row_key, row_item, row_of, spot_of, entries_of}
use Rattle.storage.specs.Meaning.CellTable.{fresh, keys_of}
use Rattle.storage.specs.Meaning.Packed.{second, Packed}
use Rattle.storage.proofs.laws.WrittenLaws.{length-written}
use Rattle.storage.proofs.laws.KeepsLaws.{packed-written}
use Rattle.storage.proofs.laws.FilterLaws.{all_map, all_any, all_at, all_over}
use Rattle.point_records.specs.declared.State.TheVariants.{Unchanged}
use Rattle.point_records.specs.declared.Record.{Record}
use Rattle.point_records.specs.Meaning.Columns.{tag_of}
use Rattle.point_records.specs.Meaning.Word.{last_word, word_at, tracker_at}
use Rattle.point_tables.specs.Meaning.Tables.{Tables, size_of, used_of, rows_of, slots_of, record_on, entries_in, Sized, slot_of}
use Rattle.point_tables.specs.Meaning.Holds.{Counted, RecordHolds, Pending, ListsHold, Holds}
use Rattle.point_tables.specs.Inner.Count.{is_live}
use Rattle.point_maintain.specs.Meaning.Maintain.{maintained}
use Rattle.point_maintain.proofs.laws.Totals.{times}
use Rattle.point_maintain.specs.Inner.Settle.{settled_all}
use Rattle.point_maintain.specs.Inner.Closed.{settled_entries, settled_tables}
use Rattle.point_maintain.proofs.laws.SettledForm.{maintained_is}
use Rattle.point_maintain.proofs.laws.RecordsAfterLaws.{all_slots, all_shaped, all_size, slots_hold, occupied-after, calm_after, word_after, all_tracker}
use Rattle.point_maintain.proofs.laws.ListsAfterLaws.{after_tally}
use Rattle.point_maintain.proofs.laws.SpaceLaws.{after-most, after-rows-most, after_tabled}
use Rattle.point_maintain.proofs.laws.TallyLaws.{Tally, from_tally}
use Rattle.point_tables.proofs.laws.EntryLaws.{written-entries}
use Rattle.point_tables.proofs.laws.ListedLaws.{Named, from_listing}
use Rattle.point_tables.proofs.laws.HeadLaws.{counted-used, counted-rows, counted-size, counted-length, counted-slots}

module _ (t : Tables) (h : Holds t) where
  heads : head ≤ length (settled_all t).map
  heads = omega (arith, (all_shaped t h).of_map)

  -- ---- the counts and the lengths
  pub after-used : used_of (settled_tables t) ≡ length (settled_entries t)
  unfolding settled_tables
  after-used = counted-used (settled_all t).map _ _ heads

  pub after-rows : rows_of (settled_tables t) ≡ length (fresh (map row_of (settled_entries t)))
  unfolding settled_tables
  after-rows = counted-rows (settled_all t).map _ _ heads

  pub after-size : size_of (settled_tables t) ≡ size_of t
  unfolding settled_tables
  after-size = counted-size (settled_all t).map _ _ heads ∙ all_size t h

  pub after-slots : slots_of (settled_tables t) ≡ slots_of t
  unfolding settled_tables
  after-slots = all_slots t h

  after-sized : Sized (settled_tables t)
  unfolding settled_tables
  after-sized =
      rw (all_slots t h)
      (record {
        some = h.sized.some;
        most = h.sized.most;
        of_reals = (all_shaped t h).of_reals ∙ all_slots t h;
        of_ints = (all_shaped t h).of_ints ∙ all_slots t h;
        of_map = counted-length (settled_all t).map _ _ heads ∙ rw (all_slots t h) at (all_shaped t h).of_map;
        of_pool = length-written (map row_of (settled_entries t)) t.pool (omega (arith, length-map (settled_entries t) row_of, after-most t h, h.sized.of_pool)) ∙ h.sized.of_pool;
        of_spots = length-written (map spot_of (settled_entries t)) t.spots (omega (arith, length-map (settled_entries t) spot_of, after-most t h, h.sized.of_spots)) ∙ h.sized.of_spots;
        of_cells = length-written (fresh (map row_of (settled_entries t))) t.cells (omega (arith, after-rows-most t h, h.sized.of_cells)) ∙ h.sized.of_cells;
      })

  after-counted : Counted (settled_tables t)
  after-counted =
      record {
        size = rw after-size h.counted.size;
        used-most = rw (after-used, after-slots) (after-most t h);
        rows-most = rw (after-rows, after-slots) (after-rows-most t h);
      }

  -- ---- the slots and the rows
  after_hold : SlotsHold (settled_tables t).nums (settled_tables t).map
  unfolding settled_tables
  after_hold = counted-slots (settled_all t).map _ _ heads (settled_all t).nums (slots_hold t h)

  after-packed : Packed (used_of (settled_tables t)) (rows_of (settled_tables t)) (settled_tables t).pool (settled_tables t).cells
  after-packed = rw (after-used, after-rows) written-rows
    where
      written-rows : Packed (length (settled_entries t)) (length (fresh (map row_of (settled_entries t)))) (settled_tables t).pool (settled_tables t).cells
      written-rows =
          unfold settled_tables in
          packed-written (length (settled_entries t)) (length (fresh (map row_of (settled_entries t)))) (map row_of (settled_entries t)) (fresh (map row_of (settled_entries t))) t.pool t.cells
          (sym (length-map (settled_entries t) row_of)) refl (after_tabled t h)

  -- ---- the lists
  pub after-entries : entries_in (settled_tables t) ≡ settled_entries t
  after-entries = ap (entries_of (settled_tables t).pool (settled_tables t).spots) after-used ∙ as_written
    where
      as_written : entries_of (settled_tables t).pool (settled_tables t).spots (length (settled_entries t)) ≡ settled_entries t
      as_written = unfold settled_tables in written-entries (settled_entries t) t.pool t.spots

  new_tally : Tally (settled_tables t) (settled_entries t)
  new_tally = record { each = all_map (Named (settled_all t)) (Named (settled_tables t)) same-records (settled_entries t) (after_tally t h).each; once = counted }
    where
      same-records : (e : Entry) → Named (settled_all t) e → Named (settled_tables t) e
      same-records e n = unfold settled_tables in record { inside = n.inside; occupied = n.occupied; key = n.key; at_x = n.at_x; at_y = n.at_y }

      counted : (i : ℕ) → i < slots_of (settled_tables t) → times slot_of i (settled_entries t) ≡ one (is_live (settled_tables t) i)
      counted = unfold settled_tables in (after_tally t h).once

  after-lists : ListsHold (settled_tables t)
  after-lists =
      from_listing (settled_tables t)
      (omega (arith, after-counted.used-most, after-sized.of_pool))
      (omega (arith, after-counted.used-most, after-sized.of_spots))
      (rw after-entries (from_tally (settled_tables t) (settled_entries t) new_tally))

  -- ---- the records: nothing is pending
  was : (i : ℕ) → i < slots_of (settled_tables t) → i < slots_of t
  was i l = rw after-slots at l

  pub after_record : (i : ℕ) → record_on (settled_tables t) i ≡ record_on (settled_all t) i
  unfolding settled_tables
  after_record i = refl

  pub after-tracker : (i : ℕ) → tracker_at (settled_tables t).nums i ≡ tracker_at t.nums i
  unfolding settled_tables
  after-tracker i = all_tracker t h i

  live-was : (i : ℕ) → phase_at (settled_tables t).nums i ≡ live → is_live (settled_all t) i ≡ true
  live-was i p = eq-eqb _ _ (ap (λ (r : Record). r.phase) (sym (after_record i)) ∙ p)

  pub after_calm : (i : ℕ) → i < slots_of (settled_tables t) → phase_at (settled_tables t).nums i ≡ live → (record_on (settled_tables t) i).state ≡ Unchanged
  after_calm i l p = ap (λ (r : Record). r.state) (after_record i) ∙ calm_after t h i (was i l) (live-was i p)

  after-records : (i : ℕ) → i < slots_of (settled_tables t) → phase_at (settled_tables t).nums i ≡ live → RecordHolds (settled_tables t) i
  after-records i l p =
      record {
        worded = word;
        occupied = rw (after_record i, after-size) (occupied-after t h i (was i l) (live-was i p));
      }
    where
      word : word_at (settled_tables t).nums i ≤ last_word
      word = unfold settled_tables in word_after t h i (was i l) (live-was i p)

  not_pending : (i : ℕ) → i < slots_of (settled_tables t) → Pending (settled_tables t) i → ⊥
  not_pending i l q = q.changed (ap tag_of (after_calm i l q.occupied))

  pub settled_keeps : Holds (settled_tables t)
  settled_keeps =
      record {
        sized = after-sized;
        counted = after-counted;
        slots = after_hold;
        records = after-records;
        packed = after-packed;
        lists = after-lists;
        dirty = λ i l q r m e. absurd (not_pending i l q);
      }

  -- no cell is marked
  pub after-marks : (r : ℕ) → r < rows_of (settled_tables t) → second (settled_tables t).cells r ≡ 0
  after-marks r l = go (rw after-rows at l)
    where
      unmarked : All (λ x. row_item x ≡ 0) (fresh (map row_of (settled_entries t)))
      unmarked = unfold fresh in all_over (λ x. row_item x ≡ 0) (λ k. k ∷ 0 ∷ []) (keys_of row_key (map row_of (settled_entries t))) (all_any (λ k. row_item (k ∷ 0 ∷ []) ≡ 0) (λ k. refl) (keys_of row_key (map row_of (settled_entries t))))

      go : r < length (fresh (map row_of (settled_entries t))) → second (settled_tables t).cells r ≡ 0
      go m =
          unfold settled_tables in
          ap row_item (get_or-append (fresh (map row_of (settled_entries t))) (drop (length (fresh (map row_of (settled_entries t)))) t.cells) [] r m)
          ∙ all_at (λ x. row_item x ≡ 0) [] (fresh (map row_of (settled_entries t))) r m unmarked

-- ---- maintain, in any order and in the table's own
pub maintained_keeps : (t : Tables) → Holds t → Holds (maintained t)
maintained_keeps t h = rw (maintained_is t h) (settled_keeps t h)
