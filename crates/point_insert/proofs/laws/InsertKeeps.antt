-- An accepted insert leaves tables that hold a grid. Assumes nothing.
use Rattle.basics.specs.Words.{ℕ, ◌<◌, ◌≤◌, ◌≡◌, refl, sym, ◌∙◌, ap, [], inl, inr, length, get_or, drop, get_or-append, get_or-set_same, get_or-set_other, arith}
use Rattle.basics.proofs.laws.Says.{d_eq}
use Rattle.geometry.specs.declared.Position.{Position}
use Rattle.cells.specs.Meaning.CellRule.{cell_at}
use Rattle.cells.specs.Meaning.Key.{key_of}
use Rattle.slots.specs.Meaning.Slot.{free, live, phase_at}
use Rattle.storage.specs.Meaning.Keyed.{All, under}
use Rattle.storage.specs.Meaning.Entries.{Entry, row_key, row_item, entry_key}
use Rattle.storage.specs.Meaning.Packed.{first, second}
use Rattle.storage.specs.Inner.Store.{Filled}
use Rattle.storage.proofs.laws.FilterLaws.{all_at, all_both}
use Rattle.storage.proofs.laws.AppendLaws.{all_append1}
use Rattle.storage.proofs.laws.PackedLaws.{all_first, place-filled}
use Rattle.point_records.specs.declared.Record.{Record}
use Rattle.point_records.specs.Meaning.Columns.{tag_of, nums_of}
use Rattle.point_records.specs.Meaning.Word.{last_word, word_at}
use Rattle.point_records.specs.Meaning.Occupied.{InDomain}
use Rattle.point_records.proofs.laws.ColumnLaws.{word_of_row}
use Rattle.point_tables.specs.Meaning.Tables.{Tables, size_of, rows_of, slots_of, record_on, entries_in, cell_rows, slot_of}
use Rattle.point_tables.specs.Meaning.Holds.{RecordHolds, ListsHold, Pending, Holds}
use Rattle.point_tables.proofs.laws.HoldsLaws.{rows_in_cells, entries_sorted}
use Rattle.point_insert.specs.Meaning.Insert.{new_record, new_entry, entries_with, rows_with, put}
use Rattle.point_tables.proofs.laws.Members.{some-append1, new-append1, pairs_append1}
use Rattle.point_insert.proofs.laws.EnterLaws.{all_entered}
use Rattle.point_tables.proofs.laws.ListedLaws.{Named, Listing, from_listing, listing, unnamed, rows_in_lem}
use Rattle.point_insert.proofs.laws.PutLaws.{put-rows, put-size, put-length, put-slots, put_same, put_other, put_entries, put-packed, put-sized}
use Rattle.point_insert.proofs.laws.PutLaws.{put-counted}

module _ (t : Tables) (h : Holds t) (s : ℕ) (inside : s < slots_of t) (is_free : phase_at t.nums s ≡ free) (p : Position) (d k : ℕ) (within_domain : InDomain p) where
  abbrev after : Tables
  after = put t s p d k

  is_new : record_on after s ≡ new_record t s p d k
  is_new = put_same t h s inside is_free p d k

  is_old : (i : ℕ) → (i ≡ s → ⊥) → record_on after i ≡ record_on t i
  is_old = put_other t h s inside is_free p d k

  old_phase : (i : ℕ) → (i ≡ s → ⊥) → phase_at after.nums i ≡ phase_at t.nums i
  old_phase i n = ap (λ (r : Record). r.phase) (is_old i n)

  -- ---- the records
  old_word : (i : ℕ) → (i ≡ s → ⊥) → word_at after.nums i ≡ word_at t.nums i
  unfolding put
  old_word i n = rw (get_or-set_other t.nums s i (nums_of (new_record t s p d k)) [] n)

  new_word : word_at after.nums s ≤ last_word
  unfolding put
  new_word = rw (get_or-set_same t.nums s (nums_of (new_record t s p d k)) [] inside) (word_of_row (new_record t s p d k))

  keeps_records : (i : ℕ) → i < slots_of after → phase_at after.nums i ≡ live → RecordHolds after i
  keeps_records i l e =
      elim (d_eq i s) [
        | inl q ↦ rw q (record { worded = new_word; occupied = rw (is_new, put-size t h s inside is_free p d k) (record { within_domain = within_domain; in_cell = refl; agrees = tt }) })
        | inr n ↦
            let r = h.records i (rw (put-length t h s inside is_free p d k) at l) (sym (old_phase i n) ∙ e) in
            record { worded = rw (old_word i n) r.worded; occupied = rw (is_old i n, put-size t h s inside is_free p d k) r.occupied }
      ]

  -- ---- the lists
  new-named : Named after (new_entry t s p)
  new-named =
      record {
        inside = rw (put-length t h s inside is_free p d k) inside;
        occupied = ap (λ (r : Record). r.phase) is_new;
        key = sym (ap (λ (r : Record). key_of r.cell) is_new);
        at_x = sym (ap (λ (r : Record). r.position.x) is_new);
        at_y = sym (ap (λ (r : Record). r.position.y) is_new);
      }

  old_named : (e : Entry) → Named t e → (slot_of e ≡ s → ⊥) → Named after e
  old_named e n f =
      record {
        inside = rw (put-length t h s inside is_free p d k) n.inside;
        occupied = old_phase (slot_of e) f ∙ n.occupied;
        key = n.key ∙ sym (ap (λ (r : Record). key_of r.cell) (is_old (slot_of e) f));
        at_x = n.at_x ∙ sym (ap (λ (r : Record). r.position.x) (is_old (slot_of e) f));
        at_y = n.at_y ∙ sym (ap (λ (r : Record). r.position.y) (is_old (slot_of e) f));
      }

  apart_from : All (λ e. slot_of e ≡ s → ⊥) (entries_in t)
  apart_from = unnamed t h s (λ e. omega arith)

  new-listing : Listing after (entries_with t s p)
  new-listing =
      record {
        each = all_append1 entry_key (Named after) (entries_in t) (new_entry t s p) (all_both (Named t) _ _ old_named (entries_in t) (listing t h).each apart_from) new-named;
        once = pairs_append1 entry_key (new_entry t s p) (entries_in t) (entries_sorted t h) _ (λ e f q. f (sym q)) (listing t h).once apart_from;
        every = λ i l e.
            elim (d_eq i s) [
              | inl q ↦ new-append1 entry_key (new_entry t s p) (entries_in t) (entries_sorted t h) (λ x. slot_of x ≡ i) (sym q)
              | inr n ↦ some-append1 entry_key (new_entry t s p) (entries_in t) (entries_sorted t h) (λ x. slot_of x ≡ i) ((listing t h).every i (rw (put-length t h s inside is_free p d k) at l) (sym (old_phase i n) ∙ e))
            ];
      }

  keeps_lists : ListsHold after
  keeps_lists =
      from_listing after (omega (arith, (put-counted t h s inside is_free p d k).used-most, (put-sized t h s inside is_free p d k).of_pool)) (omega (arith, (put-counted t h s inside is_free p d k).used-most, (put-sized t h s inside is_free p d k).of_spots))
      (rw (put_entries t h s inside is_free p d k) new-listing)

  -- ---- the marks
  -- the cell of a pending object has a row, so a new row is not its row
  has_row : (i : ℕ) → i < slots_of t → phase_at t.nums i ≡ live → Filled (under row_key (key_of (record_on t i).cell) (cell_rows t))
  has_row i l e =
      let w = h.lists.every i l e in
      let r = h.packed.has_row w.0 w.1 in
      place-filled (rows_of t) t.cells (rows_in_cells t h) _ r.0 r.1 (r.2 ∙ (h.lists.each w.0 w.1).key ∙ ap (λ (n : ℕ). key_of (record_on t n).cell) w.2)

  marked-rows : (i : ℕ) → i < slots_of t → Pending t i → All (λ r. row_key r ≡ key_of (record_on t i).cell → row_item r ≡ 1) (rows_with t p)
  marked-rows i l q =
      all_entered (key_of (cell_at (size_of t) p)) (cell_rows t) (rows_in_lem t h).in_order _ (all_first (rows_of t) t.cells (rows_in_cells t h) _ (h.dirty i l q))
      (λ n e. absurd (rw (← e, n) at (has_row i l q.occupied)))

  row_at : (r : ℕ) → r < length (rows_with t p) → get_or after.cells r [] ≡ get_or (rows_with t p) r []
  unfolding put
  row_at r l = get_or-append (rows_with t p) (drop (length (rows_with t p)) t.cells) [] r l

  keeps_dirty : (i : ℕ) → i < slots_of after → Pending after i → (r : ℕ) → r < rows_of after → first after.cells r ≡ key_of (record_on after i).cell → second after.cells r ≡ 1
  keeps_dirty i l q r m e =
      elim (d_eq i s) [
        | inl z ↦ absurd (q.changed (ap (λ (n : ℕ). tag_of (record_on after n).state) z ∙ ap (λ (r : Record). tag_of r.state) is_new))
        | inr n ↦
            let m' : r < length (rows_with t p) = rw (put-rows t h s inside is_free p d k) at m in
            let old : Pending t i = record { occupied = sym (old_phase i n) ∙ q.occupied; changed = λ z. q.changed (ap (λ (r : Record). tag_of r.state) (is_old i n) ∙ z) } in
            rw (row_at r m') (all_at _ [] (rows_with t p) r m' (marked-rows i (rw (put-length t h s inside is_free p d k) at l) old) (ap row_key (sym (row_at r m')) ∙ e ∙ ap (λ (w : Record). key_of w.cell) (is_old i n)))
      ]

  pub put_keeps : Holds (put t s p d k)
  put_keeps =
      record {
        sized = put-sized t h s inside is_free p d k;
        counted = put-counted t h s inside is_free p d k;
        slots = put-slots t h s inside is_free p d k;
        records = keeps_records;
        packed = put-packed t h s inside is_free p d k;
        lists = keeps_lists;
        dirty = keeps_dirty;
      }
