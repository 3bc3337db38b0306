-- What a search finds in tables that hold a grid: the entries whose cell is in the range and whose position passes, each at its place in
-- the pool. Assumes nothing.
use Rattle.basics.specs.Words.{ℕ, ◌<◌, ◌≤◌, ◌≡◌, sym, ap, ◌∙◌, subst, map, length, take, T, arith}
use Rattle.geometry.specs.Meaning.Domain.{position_in_domain}
use Rattle.geometry.specs.declared.Position.{Position}
use Rattle.cells.specs.declared.Cell.{Cell}
use Rattle.cells.specs.Meaning.CellRule.{cell_at}
use Rattle.cells.specs.Inner.CellRule.{Reached}
use Rattle.cells.proofs.laws.CellRuleLaws.{cell-near}
use Rattle.cells.proofs.laws.ReachLaws.{position_reached}
use Rattle.cells.proofs.laws.Numbers.{Fits, near_fits}
use Rattle.cells.proofs.laws.Range.{in_range}
use Rattle.cells.specs.Meaning.Key.{key_of}
use Rattle.cells.proofs.laws.KeyLaws.{key_lt}
use Rattle.slots.specs.Meaning.Slot.{live, phase_at}
use Rattle.storage.specs.Meaning.Keyed.{All, filter}
use Rattle.storage.specs.Inner.Keyed.{Sorted}
use Rattle.storage.specs.Meaning.Entries.{Entry, row_item, row_key, entry_key}
use Rattle.storage.specs.Meaning.Packed.{second}
use Rattle.storage.proofs.laws.PackedLaws.{ordered-sorted}
use Rattle.storage.proofs.laws.PoolLaws.{sorted_entries}
use Rattle.storage.proofs.laws.FilterLaws.{all_map, filter-both}
use Rattle.storage.specs.Inner.Window.{window_of}
use Rattle.storage.proofs.laws.WindowLaws.{window_cell}
use Rattle.storage.proofs.laws.WalkLaws.{walked_window}
use Rattle.point_tables.specs.Meaning.Tables.{Tables, size_of, used_of, slots_of, record_on, entries_in}
use Rattle.point_tables.specs.Meaning.Holds.{Holds}
use Rattle.point_search.specs.declared.Test.{Test}
use Rattle.point_search.specs.Meaning.Searches.{passes, position_of, found}
use Rattle.point_search.specs.Inner.Places.{wanted, places_of}
use Rattle.point_search.proofs.laws.PlacesLaws.{places-entries}
use Rattle.point_tables.specs.Inner.Entry.{entry_at}
use Rattle.point_tables.proofs.laws.EntryLaws.{all_entries}

-- what an entry in use is: its position is in the domain, its key is that of the position's cell, and its slot is occupied
pub record Standing (t : Tables) (e : Entry) : Type 0 where
  pub within_domain : T (position_in_domain (position_of e))
  pub key : entry_key e ≡ key_of (cell_at (size_of t) (position_of e))
  pub inside : row_item e.row < slots_of t
  pub occupied : phase_at t.nums (row_item e.row) ≡ live
  pub recorded : position_of e ≡ (record_on t (row_item e.row)).position

module _ (t : Tables) (h : Holds t) where
  pub in_pool : used_of t ≤ length t.pool
  in_pool = omega (arith, h.counted.used-most, h.sized.of_pool)

  pub in_spots : used_of t ≤ length t.spots
  in_spots = omega (arith, h.counted.used-most, h.sized.of_spots)

  pub rows-sorted : Sorted row_key (take (used_of t) t.pool)
  rows-sorted = ordered-sorted (used_of t) t.pool in_pool h.packed.ordered

  pub stands : (j : ℕ) → j < used_of t → Standing t (entry_at t.pool t.spots j)
  stands j l =
      let s = second t.pool j in
      let e = h.lists.each j l in
      let o = (h.records s e.inside e.occupied).occupied in
      let p : position_of (entry_at t.pool t.spots j) ≡ (record_on t s).position = λ z. record { x = e.at_x z; y = e.at_y z } in
      record {
        within_domain = subst (λ (q : Position). T (position_in_domain q)) (sym p) o.within_domain;
        key = e.key ∙ ap key_of (sym o.in_cell) ∙ ap (λ (q : Position). key_of (cell_at (size_of t) q)) (sym p);
        inside = e.inside;
        occupied = e.occupied;
        recorded = p;
      }

  pub standing : All (Standing t) (entries_in t)
  standing = all_entries t.pool t.spots (used_of t) in_pool in_spots (Standing t) stands

  cell-fits : (p : Position) → Reached p → Fits (cell_at (size_of t) p)
  cell-fits p r = near_fits (cell_at (size_of t) p) (cell-near (size_of t) p r)

  own-fits : (e : Entry) → Standing t e → Fits (cell_at (size_of t) (position_of e))
  own-fits e s = cell-fits (position_of e) (position_reached (position_of e) s.within_domain)

  keys_small : All (λ e. entry_key e < 18446744073709551616) (entries_in t)
  keys_small =
      all_map (Standing t) (λ e. entry_key e < 18446744073709551616)
      (λ e s. subst (λ (k : ℕ). k < 18446744073709551616) (sym s.key) (key_lt (cell_at (size_of t) (position_of e)) (own-fits e s))) (entries_in t) standing

  module _ (ll ur : Position) (rl : Reached ll) (ru : Reached ur) where
    abbrev a : Cell
    a = cell_at (size_of t) ll

    abbrev b : Cell
    b = cell_at (size_of t) ur

    -- the window of the range has an entry exactly if the range has the cell of its position
    pub window_own : (e : Entry) → Standing t e → window_of a b (entry_key e) ≡ in_range a b (cell_at (size_of t) (position_of e))
    window_own e s = ap (window_of a b) s.key ∙ window_cell a b (cell-fits ll rl) (cell-fits ur ru) (cell_at (size_of t) (position_of e)) (own-fits e s)

    -- what is found, as one filter of the entries in use
    pub found-wanted : (test : Test) → found t ll ur test ≡ filter (wanted a b test) (entries_in t)
    unfolding found
    found-wanted test =
        ap (filter (λ e. passes test (position_of e)))
        (walked_window entry_key a b (cell-fits ll rl) (cell-fits ur ru) (entries_in t) (sorted_entries t.pool t.spots (used_of t) in_pool in_spots rows-sorted) keys_small)
        ∙ filter-both (λ e. window_of a b (entry_key e)) (λ e. passes test (position_of e)) (entries_in t)

    -- and as the entries at the places that a search collects
    pub found-places : (test : Test) → found t ll ur test ≡ map (entry_at t.pool t.spots) (places_of a b test t.pool t.spots (used_of t))
    unfolding places_of
    found-places test = found-wanted test ∙ sym (places-entries t.pool t.spots (wanted a b test) (used_of t) in_pool in_spots)
