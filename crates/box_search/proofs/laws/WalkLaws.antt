-- The walk of a query box in tables that hold a grid: the entries whose cell is in its range, in the pool's own order; and what gathering
-- makes of them. Assumes nothing.
use Rattle.basics.specs.Words.{ℕ, ◌<◌, ◌≡◌, sym, ap, ◌∙◌, subst, true, List, map, Memᴰ, take, T, arith}
use Rattle.geometry.specs.declared.Aabb.{Aabb}
use Rattle.geometry.specs.Meaning.Domain.{aabb_in_domain}
use Rattle.cells.specs.declared.Cell.{Cell}
use Rattle.cells.proofs.laws.Numbers.{Fits, near_fits}
use Rattle.cells.proofs.laws.Range.{in_range}
use Rattle.cells.specs.Meaning.Key.{key_of}
use Rattle.cells.specs.Inner.Key.{column_of, line_of}
use Rattle.cells.proofs.laws.KeyLaws.{key_lt}
use Rattle.slots.specs.Meaning.Slot.{live, phase_at}
use Rattle.storage.specs.Meaning.Keyed.{All, filter}
use Rattle.storage.specs.Meaning.Entries.{row_key}
use Rattle.storage.proofs.laws.PackedLaws.{first_all}
use Rattle.storage.proofs.laws.FilterLaws.{all_any, filter_same}
use Rattle.storage.specs.Inner.Window.{in_window}
use Rattle.storage.specs.Inner.Window.{window_of}
use Rattle.storage.proofs.laws.WindowLaws.{range_fits}
use Rattle.storage.proofs.laws.WalkLaws.{walked_window}
use Rattle.storage.proofs.laws.RunStepLaws.{key_windows}
use Rattle.box_tables.specs.Meaning.Tables.{Tables, size_of, used_of, slots_of, entries_in, aabb_on, low_cell, high_cell, item_on, slot_of}
use Rattle.box_tables.specs.Meaning.Holds.{Holds}
use Rattle.box_tables.proofs.laws.BoxLaws as Box
use Rattle.box_tables.proofs.laws.HoldsLaws.{Named, named-slot, used_in_pool, entries_sorted, entries-named, low_near, high-near}
use Rattle.box_search.specs.Meaning.Firsts.{firsts}
use Rattle.box_search.specs.Meaning.Search.{range_entries, broad}
use Rattle.box_search.specs.Inner.Gather.{Slots, inside}
use Rattle.box_search.proofs.laws.StandsLaws.{all_member, member_all, stands-cell}

module _ (t : Tables) (h : Holds t) where
  -- ---- the cells of the box of an occupied slot
  module _ (s : ℕ) (l : s < slots_of t) (p : phase_at t.nums s ≡ live) where
    pub low_fits : Fits (low_cell (size_of t) (aabb_on t s))
    low_fits = near_fits (low_cell (size_of t) (aabb_on t s)) (low_near t h s l p)

    pub high_fits : Fits (high_cell (size_of t) (aabb_on t s))
    high_fits = near_fits (high_cell (size_of t) (aabb_on t s)) (high-near t h s l p)

  -- ---- each entry names a slot, and has the key of a cell that the box of the slot covers
  pub entry_named : (r : List ℕ) → Memᴰ r (entries_in t) → Named t r
  entry_named = all_member (Named t) (entries_in t) (entries-named t h)

  pub entry-cell : (r : List ℕ) (m : Memᴰ r (entries_in t)) → let s = (entry_named r m).slot in
      (c : Cell) × (in_range (low_cell (size_of t) (aabb_on t s)) (high_cell (size_of t) (aabb_on t s)) c ≡ true) × (key_of c ≡ row_key r)
  entry-cell r m =
      let n = entry_named r m in
      stands-cell (low_cell (size_of t) (aabb_on t n.slot)) (high_cell (size_of t) (aabb_on t n.slot)) (item_on t n.slot) (entries_in t) (h.every n.slot n.inside n.occupied) r m n.item

  pub entry-fits : (r : List ℕ) (m : Memᴰ r (entries_in t)) → Fits (entry-cell r m).0
  entry-fits r m =
      let n = entry_named r m in
      let s = n.slot in
      range_fits (low_cell (size_of t) (aabb_on t s)) (high_cell (size_of t) (aabb_on t s)) (low_fits s n.inside n.occupied) (high_fits s n.inside n.occupied) (entry-cell r m).0 (entry-cell r m).1

  keys_small : All (λ r. row_key r < 18446744073709551616) (entries_in t)
  keys_small =
      member_all (λ r. row_key r < 18446744073709551616) (entries_in t)
      (λ r m. subst (λ (k : ℕ). k < 18446744073709551616) (entry-cell r m).2 (key_lt (entry-cell r m).0 (entry-fits r m)))

  pub slots-few : Slots t.pool (used_of t)
  slots-few j l =
      let n = first_all (used_of t) t.pool (used_in_pool t h) (Named t) (entries-named t h) j l in
      omega (arith, named-slot t _ n, n.inside, h.sized.most)

  -- ---- the walk
  module _ (q : Aabb) (d : T (aabb_in_domain q)) where
    abbrev a : Cell
    a = low_cell (size_of t) q

    abbrev b : Cell
    b = high_cell (size_of t) q

    pub a_fits : Fits a
    a_fits = near_fits a (Box.low_near q d (size_of t))

    pub b_fits : Fits b
    b_fits = near_fits b (Box.high-near q d (size_of t))

    pub walk_window : range_entries t q ≡ filter (λ r. window_of a b (row_key r)) (entries_in t)
    unfolding range_entries
    walk_window = walked_window row_key a b a_fits b_fits (entries_in t) (entries_sorted t h) keys_small

    -- gathering between the keys of the two cells
    pub gathered-broad : (low high used : ℕ) → low ≡ key_of a → high ≡ key_of b → used ≡ used_of t → firsts (map slot_of (inside low high (take used t.pool))) ≡ broad t q
    unfolding broad
    gathered-broad low high used el eh eu =
        (λ z. firsts (map slot_of (inside (el z) (eh z) (take (eu z) t.pool))))
        ∙ ap (λ (l : List (List ℕ)). firsts (map slot_of l))
        (filter_same (λ r. in_window (column_of (key_of a)) (line_of (key_of a)) (column_of (key_of b)) (line_of (key_of b)) (row_key r)) (λ r. window_of a b (row_key r)) (entries_in t)
        (all_any (λ r. in_window (column_of (key_of a)) (line_of (key_of a)) (column_of (key_of b)) (line_of (key_of b)) (row_key r) ≡ window_of a b (row_key r)) (λ r. key_windows a b a_fits b_fits (row_key r)) (entries_in t))
        ∙ sym walk_window)
