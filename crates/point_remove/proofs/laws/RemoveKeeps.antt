-- Taking an object out leaves tables that hold a grid, with one entry less. Assumes nothing.
use Rattle.basics.specs.Words.{ℕ, ◌+◌, ◌<◌, ◌≡◌, sym, ◌∙◌, ap, Bool, true, false, List, [], ◌∷◌, length, get_or, drop, get_or-append, arith, eqb-true}
use Rattle.basics.specs.Words.{eqb-false, ne_eqb}
use Rattle.cells.specs.Meaning.Key.{key_of}
use Rattle.slots.specs.Meaning.Slot.{live, phase_at}
use Rattle.storage.specs.Meaning.Keyed.{All, under, take_out}
use Rattle.storage.specs.Meaning.Entries.{Entry, row_key, row_item, entry_key, is_item}
use Rattle.storage.specs.Meaning.Packed.{first, second}
use Rattle.storage.proofs.laws.FilterLaws.{all_map, all_at, all_both}
use Rattle.storage.proofs.laws.TakeOutLaws.{all_take_out}
use Rattle.storage.proofs.laws.PackedLaws.{all_first}
use Rattle.point_records.specs.declared.Record.{Record}
use Rattle.point_records.specs.Meaning.Columns.{tag_of}
use Rattle.point_tables.specs.Meaning.Tables.{Tables, used_of, rows_of, slots_of, record_on, entries_in, cell_rows, slot_of}
use Rattle.point_tables.specs.Meaning.Holds.{RecordHolds, ListsHold, Pending, Holds}
use Rattle.point_remove.specs.Meaning.RemoveMaintain.{is_empty, entries_without, rows_without, taken_out}
use Rattle.point_tables.proofs.laws.Members.{Pairs}
use Rattle.point_remove.proofs.laws.GoneLaws.{some-take_out, pairs_take_out, all_on_list, some-on_list, pairs_on_list, gone-on_list}
use Rattle.point_remove.proofs.laws.DropLaws.{all_rows_by}
use Rattle.point_tables.proofs.laws.ListedLaws.{Named, Listing, from_listing, listing}
use Rattle.point_tables.proofs.laws.HoldsLaws.{rows_in_cells, entries_sorted}
use Rattle.point_remove.proofs.laws.TakenLaws.{one_less, taken-used, taken-rows, taken-size, taken-length, taken-slots, taken-gone, taken_other}
use Rattle.point_remove.proofs.laws.TakenLaws.{taken_record, taken-entries, taken-packed, taken-sized, taken-counted}

module _ (t : Tables) (h : Holds t) (s : ℕ) (inside : s < slots_of t) (is_live : phase_at t.nums s ≡ live) where
  abbrev after : Tables
  after = taken_out t s

  -- an object that is left is another one, and its record is as it was
  another : (i : ℕ) → phase_at after.nums i ≡ live → i ≡ s → ⊥
  another i e q = taken-gone t h s inside is_live (rw q at e)

  is_old : (i : ℕ) → (i ≡ s → ⊥) → record_on after i ≡ record_on t i
  is_old = taken_record t h s inside is_live

  old_phase : (i : ℕ) → (i ≡ s → ⊥) → phase_at after.nums i ≡ phase_at t.nums i
  old_phase i n = ap (λ (r : List ℕ). get_or r 1 0) (taken_other t h s inside is_live i n)

  old_slot : (i : ℕ) → i < slots_of after → i < slots_of t
  old_slot i l = rw (taken-length t h s inside is_live) at l

  -- ---- the records
  keeps_records : (i : ℕ) → i < slots_of after → phase_at after.nums i ≡ live → RecordHolds after i
  keeps_records i l e =
      let n = another i e in
      let r = h.records i (old_slot i l) (sym (old_phase i n) ∙ e) in
      record { worded = rw (taken_other t h s inside is_live i n) r.worded; occupied = rw (is_old i n, taken-size t h s inside is_live) r.occupied }

  -- ---- the lists
  abbrev test : Entry → Bool
  test e = is_item s e.row

  -- the key of the object's cell, and the cell's list
  abbrev key : ℕ
  key = key_of (record_on t s).cell

  abbrev list : List Entry
  list = under entry_key key (entries_in t)

  old_named : (e : Entry) → Named t e → is_item s e.row ≡ false → Named after e
  old_named e n f =
      let o = is_old (slot_of e) (eqb-false (slot_of e) s f) in
      record {
        inside = rw (taken-length t h s inside is_live) n.inside;
        occupied = old_phase (slot_of e) (eqb-false (slot_of e) s f) ∙ n.occupied;
        key = n.key ∙ sym (ap (λ (r : Record). key_of r.cell) o);
        at_x = n.at_x ∙ sym (ap (λ (r : Record). r.position.x) o);
        at_y = n.at_y ∙ sym (ap (λ (r : Record). r.position.y) o);
      }

  -- no entry of the slot is left
  gone : All (λ e. is_item s e.row ≡ false) (entries_without t s)
  gone =
      gone-on_list entry_key key test (entries_in t)
      (all_map (Named t) _ (λ e n q. n.key ∙ ap (λ (i : ℕ). key_of (record_on t i).cell) (eqb-true (slot_of e) s q)) (entries_in t) (listing t h).each)
      (pairs_map (entries_in t) (listing t h).once)
    where
      pairs_map : (l : List Entry) → Pairs (λ x y. slot_of x ≡ slot_of y → ⊥) l → Pairs (λ x y. is_item s x.row ≡ true → is_item s y.row ≡ false) l
      pairs_map [] p = tt
      pairs_map (x ∷ l) p = (all_map _ _ (λ y n e. ne_eqb (slot_of y) s (λ q. n (eqb-true (slot_of x) s e ∙ sym q))) l p.0, pairs_map l p.1)

  left-named : All (Named t) (entries_without t s)
  left-named = all_on_list entry_key key (take_out test) (entries_in t) (Named t) (all_take_out (Named t) _ list) (listing t h).each

  new-listing : Listing after (entries_without t s)
  new-listing =
      record {
        each = all_both (Named t) _ (Named after) old_named (entries_without t s) left-named gone;
        once = pairs_on_list entry_key key (take_out test) (entries_in t) (entries_sorted t h) (λ x y. slot_of x ≡ slot_of y → ⊥) (λ P. all_take_out P _ list) (pairs_take_out _ (λ x y f q. f (sym q)) _ list) (listing t h).once;
        every = λ i l e.
            let n = another i e in
            some-on_list entry_key key (take_out test) (entries_in t) (entries_sorted t h) (λ x. slot_of x ≡ i)
            (some-take_out _ _ (λ x q. ne_eqb (slot_of x) s (λ z. n (sym q ∙ z))) list)
            ((listing t h).every i (old_slot i l) (sym (old_phase i n) ∙ e));
      }

  keeps_lists : ListsHold after
  keeps_lists =
      from_listing after (omega (arith, (taken-counted t h s inside is_live).used-most, (taken-sized t h s inside is_live).of_pool)) (omega (arith, (taken-counted t h s inside is_live).used-most, (taken-sized t h s inside is_live).of_spots))
      (rw (taken-entries t h s inside is_live) new-listing)

  -- ---- the marks
  marked-rows : (i : ℕ) → i < slots_of t → Pending t i → All (λ r. row_key r ≡ key_of (record_on t i).cell → row_item r ≡ 1) (rows_without t s)
  marked-rows i l q = all_rows_by (is_empty (under entry_key key (entries_without t s))) key (cell_rows t) _ (all_first (rows_of t) t.cells (rows_in_cells t h) _ (h.dirty i l q))

  row_at : (r : ℕ) → r < length (rows_without t s) → get_or after.cells r [] ≡ get_or (rows_without t s) r []
  unfolding taken_out
  row_at r l = get_or-append (rows_without t s) (drop (length (rows_without t s)) t.cells) [] r l

  keeps_dirty : (i : ℕ) → i < slots_of after → Pending after i → (r : ℕ) → r < rows_of after → first after.cells r ≡ key_of (record_on after i).cell → second after.cells r ≡ 1
  keeps_dirty i l q r m e =
      let n = another i q.occupied in
      let m' : r < length (rows_without t s) = rw (taken-rows t h s inside is_live) at m in
      let old : Pending t i = record { occupied = sym (old_phase i n) ∙ q.occupied; changed = λ z. q.changed (ap (λ (r : Record). tag_of r.state) (is_old i n) ∙ z) } in
      rw (row_at r m') (all_at _ [] (rows_without t s) r m' (marked-rows i (old_slot i l) old) (ap row_key (sym (row_at r m')) ∙ e ∙ ap (λ (w : Record). key_of w.cell) (is_old i n)))

  pub taken_keeps : Holds (taken_out t s)
  taken_keeps =
      record {
        sized = taken-sized t h s inside is_live;
        counted = taken-counted t h s inside is_live;
        slots = taken-slots t h s inside is_live;
        records = keeps_records;
        packed = taken-packed t h s inside is_live;
        lists = keeps_lists;
        dirty = keeps_dirty;
      }

  pub taken-count : used_of (taken_out t s) + 1 ≡ used_of t
  taken-count = ap (λ (n : ℕ). n + 1) (taken-used t h s inside is_live) ∙ one_less t h s inside is_live
