-- The sweep over the lists, the pass over the slots, the merge and the table anew, one after the other, leave the tables of maintain.
-- Assumes nothing.
use Rattle.basics.specs.Words.{ℕ, zero, suc, ◌+◌, ◌≤◌, ◌<◌, ◌≡◌, refl, sym, ap, ◌∙◌, subst, List, ◌++◌, map, map-append, length, take, drop, length-append}
use Rattle.basics.specs.Words.{length-map, slice, take_at, arith}
use lib.Ieee.{Float}
use Rattle.storage.specs.Meaning.Keyed.{All, written, append_all}
use Rattle.storage.specs.Inner.Keyed.{Sorted}
use Rattle.storage.specs.Meaning.Entries.{Entry, row_key, row_item, row_of, spot_of, entry_key, zipped, entries_of}
use Rattle.storage.specs.Meaning.CellTable.{fresh}
use Rattle.storage.specs.Inner.Pooled.{Columns}
use Rattle.storage.proofs.laws.ColumnLaws.{zipped-whole}
use Rattle.storage.proofs.laws.AppendLaws.{length-append_all}
use Rattle.storage.proofs.laws.FilterLaws.{by_test, all_append}
use Rattle.storage.proofs.laws.KeepsLaws.{sorted-map}
use Rattle.storage_merge.specs.Inner.Grown.{recorded_entry, grown}
use Rattle.point_records.specs.declared.State.{State}
use Rattle.point_records.specs.declared.State.TheVariants.{Unchanged, NewPos, Relocate, Removed}
use Rattle.point_tables.specs.Meaning.Tables.{Tables, tables, counting, size_of, slots_of, record_on}
use Rattle.point_tables.specs.Meaning.Holds.{Holds}
use Rattle.point_tables.specs.Inner.Count.{is_live}
use Rattle.point_maintain.specs.Inner.Settle.{settled_all}
use Rattle.point_maintain.proofs.laws.SettleLaws.{sized-shaped}
use Rattle.point_maintain.proofs.laws.RecordsAfterLaws.{all_slots, all_shaped}
use Rattle.point_maintain.specs.Inner.Closed.{kept_entries, relocated_by, relocated_at, relocated_below, settled_entries, settled_tables}
use Rattle.point_maintain.proofs.laws.SettledForm.{kept-sorted}
use Rattle.point_maintain.proofs.laws.SpaceLaws.{after-most, after-rows-most}
use Rattle.storage.proofs.laws.WrittenLaws.{length-written}
use Rattle.point_maintain_slots.proofs.laws.Pass.{bare}
use Rattle.point_maintain_slots.specs.Inner.Pass.{put_at, Passed}
use Rattle.point_maintain_slots.proofs.laws.BareLaws.{all_bare, below_bare}
use Rattle.point_maintain_slots.proofs.laws.SpotLaws.{spotted_below}
use Rattle.point_maintain_run.proofs.laws.OverLaws.{written_over, put-behind, both_first, both-second}

-- ---- the rows of relocated objects name slots
item_by : (size i n : ℕ) → i < n → (st : State) → All (λ r. row_item r < n) (map row_of (relocated_by size i st))
item_by size i n h Unchanged = tt
item_by size i n h (NewPos p) = tt
item_by size i n h (Relocate p c) = (h, tt)
item_by size i n h Removed = tt

item_at : (t : Tables) (i n : ℕ) → i < n → All (λ r. row_item r < n) (map row_of (relocated_at t i))
item_at t i n h = by_test (is_live t i) (λ e. rw e (item_by (size_of t) i n h (record_on t i).state)) (λ e. rw e tt)

module _ {t : Tables} (h : Holds t) where
  abbrev kept_ones : List Entry
  kept_ones = kept_entries t

  abbrev moved_ones : List Entry
  moved_ones = relocated_below (slots_of t) t

  abbrev rows : List (List ℕ)
  rows = map row_of (settled_entries t)

  -- they are as many as the entries after, and there is room for them
  lengths : length (settled_entries t) ≡ length kept_ones + length moved_ones
  unfolding settled_entries
  lengths = length-append_all entry_key kept_ones moved_ones

  pub room : length kept_ones + length moved_ones ≤ slots_of t
  room = omega (arith, lengths, after-most t h)

  items_below : (n : ℕ) → n ≤ slots_of t → All (λ r. row_item r < slots_of t) (map row_of (relocated_below n t))
  unfolding relocated_below
  items_below zero l = tt
  items_below (suc n) l =
      subst (All (λ r. row_item r < slots_of t)) (sym (map-append row_of (relocated_below n t) (relocated_at t n)))
      (all_append (λ r. row_item r < slots_of t) (map row_of (relocated_below n t)) (map row_of (relocated_at t n)) (items_below n (omega arith)) (item_at t n (slots_of t) (omega arith)))

  -- ---- after the sweep
  module _ {pool₁ : List (List ℕ)} {spots₁ : List (List Float)} {w : ℕ} (w_is : w ≡ length kept_ones) (swept : Columns kept_ones t.pool t.spots pool₁ spots₁) where
    pub put-room : w + length (relocated_below (slots_of t) (bare t)) ≤ length pool₁
    put-room =
        let e : length pool₁ ≡ slots_of t = ap length swept.in_rows ∙ length-written (map row_of kept_ones) t.pool (omega (arith, length-map kept_ones row_of, room, h.sized.of_pool)) ∙ h.sized.of_pool in
        omega (arith, e, room, w_is, ap length (below_bare t (slots_of t)))

    -- ---- after the pass over the slots
    module _ {after : Tables} {pool₂ : List (List ℕ)} {k : ℕ} (passed : Passed (bare t) after w pool₁ pool₂ k) where
      pub k_is : k ≡ length moved_ones
      k_is = passed.counts ∙ ap length (below_bare t (slots_of t))

      records : after ≡ bare (settled_all t)
      records = passed.settles ∙ all_bare t

      -- w and k as the numbers of rows
      w_rows : w ≡ length (map row_of kept_ones)
      w_rows = w_is ∙ sym (length-map kept_ones row_of)

      k_rows : k ≡ length (map row_of moved_ones)
      k_rows = k_is ∙ sym (length-map moved_ones row_of)

      abbrev both-rows : List (List ℕ)
      both-rows = map row_of kept_ones ++ map row_of moved_ones

      pool_is : pool₂ ≡ written both-rows t.pool
      pool_is =
          let e : pool₂ ≡ put_at w (map row_of moved_ones) pool₁ = passed.puts ∙ ap (λ (l : List Entry). put_at w (map row_of l) pool₁) (below_bare t (slots_of t)) in
          e
          ∙ ap (λ (l : List (List ℕ)). put_at w (map row_of moved_ones) l) swept.in_rows
          ∙ ap (λ (n : ℕ). put_at n (map row_of moved_ones) (written (map row_of kept_ones) t.pool)) w_rows
          ∙ put-behind (map row_of kept_ones) (map row_of moved_ones) t.pool

      front : take w pool₂ ≡ map row_of kept_ones
      front =
          (λ z. take (w_rows z) (pool_is z)) ∙ both_first (map row_of kept_ones) (map row_of moved_ones) t.pool

      back : slice w (w + k) pool₂ ≡ map row_of moved_ones
      back =
          (λ z. slice (w_rows z) (w_rows z + k_rows z) (pool_is z)) ∙ both-second (map row_of kept_ones) (map row_of moved_ones) t.pool

      -- the tables keep their lengths
      long-both : length both-rows ≤ slots_of t
      long-both = omega (arith, room, length-append (map row_of kept_ones) (map row_of moved_ones), w_rows, k_rows, w_is, k_is)

      long-pool : length pool₂ ≡ slots_of t
      long-pool = ap length pool_is ∙ length-written both-rows t.pool (omega (arith, long-both, h.sized.of_pool)) ∙ h.sized.of_pool

      long-spots : length spots₁ ≡ slots_of t
      long-spots =
          ap length swept.in_spots
          ∙ length-written (map spot_of kept_ones) t.spots (omega (arith, room, length-map kept_ones spot_of, h.sized.of_spots))
          ∙ h.sized.of_spots

      pub in_pool : w + k ≤ length pool₂
      in_pool = omega (arith, long-pool, room, w_is, k_is)

      pub in_spots : w + k ≤ length spots₁
      in_spots = omega (arith, long-spots, room, w_is, k_is)

      pub few : k ≤ 4096
      few = omega (arith, room, k_is, h.sized.most)

      pub sorted_front : Sorted row_key (take w pool₂)
      sorted_front = subst (Sorted row_key) (sym front) (sorted-map row_of entry_key row_key (λ e. refl) kept_ones (kept-sorted t h))

      -- the columns of the records
      reals-are : after.reals ≡ (settled_all t).reals
      reals-are = ap (λ (u : Tables). u.reals) records

      long-reals : length after.reals ≡ slots_of t
      long-reals = ap length reals-are ∙ (all_shaped t h).of_reals ∙ all_slots t h

      pub map-room : 2 < length after.map
      map-room = omega (arith, ap (λ (u : Tables). length u.map) records ∙ (all_shaped t h).of_map)

      pub named_back : All (λ x. row_item x < length after.reals) (slice w (w + k) pool₂)
      named_back =
          subst (All (λ x. row_item x < length after.reals)) (sym back)
          (subst (λ (n : ℕ). All (λ x. row_item x < n) (map row_of moved_ones)) (sym long-reals) (items_below (slots_of t) (omega arith)))

      first-entries : entries_of pool₂ spots₁ w ≡ kept_ones
      first-entries =
          (λ z. zipped (front z) (take (w_is z) (swept.in_spots z)))
          ∙ ap (zipped (map row_of kept_ones)) (take_at (map spot_of kept_ones) (drop (length (map spot_of kept_ones)) t.spots) (length kept_ones) (length-map kept_ones spot_of))
          ∙ zipped-whole kept_ones

      tail_entries : map (recorded_entry after.reals) (slice w (w + k) pool₂) ≡ moved_ones
      tail_entries = (λ z. map (recorded_entry (reals-are z)) (back z)) ∙ spotted_below t (sized-shaped t h.sized) (slots_of t) (omega arith)

      grown_is : grown pool₂ spots₁ after.reals w k ≡ settled_entries t
      unfolding settled_entries
      grown_is = λ z. append_all entry_key (first-entries z) (tail_entries z)

      -- ---- after the merge
      module _ {pool₃ : List (List ℕ)} {spots₃ : List (List Float)} (merged : Columns (grown pool₂ spots₁ after.reals w k) pool₂ spots₁ pool₃ spots₃) where
        used-rows : w + k ≡ length rows
        used-rows = omega (arith, lengths, w_is, k_is, length-map (settled_entries t) row_of)

        rows_are : pool₃ ≡ written rows t.pool
        rows_are =
            merged.in_rows
            ∙ (λ z. written (map row_of (grown_is z)) (pool_is z))
            ∙ written_over both-rows rows t.pool (omega (arith, used-rows, w_rows, k_rows, length-append (map row_of kept_ones) (map row_of moved_ones)))

        spots-are : spots₃ ≡ written (map spot_of (settled_entries t)) t.spots
        spots-are =
            merged.in_spots
            ∙ (λ z. written (map spot_of (grown_is z)) (swept.in_spots z))
            ∙ written_over (map spot_of kept_ones) (map spot_of (settled_entries t)) t.spots (omega (arith, lengths, length-map kept_ones spot_of, length-map (settled_entries t) spot_of))

        used_is : w + k ≡ length (settled_entries t)
        used_is = omega (arith, lengths, w_is, k_is)

        first_rows : take (w + k) pool₃ ≡ rows
        first_rows = (λ z. take (used-rows z) (rows_are z)) ∙ take_at rows (drop (length rows) t.pool) (length rows) refl

        pub used-inside : w + k ≤ length pool₃
        used-inside =
            let e : length pool₃ ≡ slots_of t = ap length rows_are ∙ length-written rows t.pool (omega (arith, used-rows, room, w_is, k_is, h.sized.of_pool)) ∙ h.sized.of_pool in
            omega (arith, e, room, w_is, k_is)

        pub cells-room : length (fresh (take (w + k) pool₃)) ≤ length t.cells
        cells-room =
            let e : length (fresh (take (w + k) pool₃)) ≡ length (fresh rows) = ap (λ (l : List (List ℕ)). length (fresh l)) first_rows in
            omega (arith, e, after-rows-most t h, h.sized.of_cells)

        -- ---- and after the table anew
        pub assembled : {cells₄ : List (List ℕ)} {n : ℕ} → (n ≡ length (fresh (take (w + k) pool₃))) × (cells₄ ≡ written (fresh (take (w + k) pool₃)) t.cells) → tables after.nums after.reals after.ints (counting after.map (w + k) n) pool₃ spots₃ cells₄ ≡ settled_tables t
        unfolding settled_tables
        assembled e =
            λ z.
            tables (records z).nums (records z).reals (records z).ints
            (counting (records z).map (used_is z) ((e.0 ∙ ap (λ (l : List (List ℕ)). length (fresh l)) first_rows) z))
            (rows_are z) (spots-are z) ((e.1 ∙ ap (λ (l : List (List ℕ)). written (fresh l) t.cells) first_rows) z)
