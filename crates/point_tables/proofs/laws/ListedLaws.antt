-- The lists of tables that hold a grid, as facts of the list of their entries: each names an object, no two the same one, and every
-- object is named. Assumes nothing.
use Rattle.basics.specs.Words.{ℕ, ◌<◌, ◌≤◌, ◌≡◌, List, length, get_or, take, arith}
use lib.Ieee.{nan}
use Rattle.cells.specs.Meaning.Key.{key_of}
use Rattle.slots.specs.Meaning.Slot.{live, phase_at}
use Rattle.storage.specs.Meaning.Keyed.{All}
use Rattle.storage.specs.Meaning.Entries.{Entry, row_key}
use Rattle.storage.proofs.laws.FilterLaws.{all_map}
use Rattle.point_tables.specs.Meaning.Tables.{Tables, used_of, rows_of, slots_of, record_on, entries_in, cell_rows, slot_of}
use Rattle.point_tables.specs.Meaning.Holds.{ListsHold, Holds}
use Rattle.point_tables.proofs.laws.HoldsLaws.{used_in_pool, used_in_spots, rows_in_cells}
use Rattle.point_tables.proofs.laws.Members.{Some, Pairs, some_at, some_of, pairs_at, pairs_of}
use Rattle.point_tables.specs.Inner.Entry.{entry_at}
use Rattle.point_tables.proofs.laws.EntryLaws.{entries-length, entries_at, all_entries, entries_all, no_entry}
use Rattle.point_tables.proofs.laws.RowLaws.{PackedRows, to_rows}

-- an entry names an occupied slot, under the key of its cell, with its recorded position
pub record Named (t : Tables) (e : Entry) : Type 0 where
  pub inside : slot_of e < slots_of t
  pub occupied : phase_at t.nums (slot_of e) ≡ live
  pub key : row_key e.row ≡ key_of (record_on t (slot_of e)).cell
  pub at_x : get_or e.spot 0 nan ≡ (record_on t (slot_of e)).position.x
  pub at_y : get_or e.spot 1 nan ≡ (record_on t (slot_of e)).position.y

-- no two of one slot
abbrev pub Alone : List Entry → Type 0
Alone es = Pairs (λ x y. slot_of x ≡ slot_of y → ⊥) es

pub record Listing (t : Tables) (es : List Entry) : Type 0 where
  pub each : All (Named t) es
  pub once : Alone es
  pub every : (s : ℕ) → s < slots_of t → phase_at t.nums s ≡ live → Some (λ e. slot_of e ≡ s) es

module _ (t : Tables) (u : used_of t ≤ length t.pool) (v : used_of t ≤ length t.spots) where
  pub to_listing : ListsHold t → Listing t (entries_in t)
  to_listing h =
      record {
        each = all_entries t.pool t.spots (used_of t) u v (Named t) (λ j l. let e = h.each j l in record { inside = e.inside; occupied = e.occupied; key = e.key; at_x = e.at_x; at_y = e.at_y });
        once = pairs_of _ no_entry (entries_in t) (λ i j l g. let l' : j < used_of t = rw (entries-length t.pool t.spots (used_of t) u v) at l in rw (at i (omega arith), at j l') (h.once i j l' g));
        every = λ s l p. let w = h.every s l p in some_of _ no_entry (entries_in t) w.0 (rw (entries-length t.pool t.spots (used_of t) u v) w.1) (rw (at w.0 w.1) w.2);
      }
    where
      at : (j : ℕ) → j < used_of t → get_or (entries_in t) j no_entry ≡ entry_at t.pool t.spots j
      at = entries_at t.pool t.spots (used_of t) u v

  pub from_listing : Listing t (entries_in t) → ListsHold t
  from_listing h =
      record {
        each = λ j l. let e = entries_all t.pool t.spots (used_of t) u v (Named t) h.each j l in record { inside = e.inside; occupied = e.occupied; key = e.key; at_x = e.at_x; at_y = e.at_y };
        once = λ i j l g. rw (at i (omega arith), at j l) at (pairs_at _ no_entry (entries_in t) h.once i j (rw (entries-length t.pool t.spots (used_of t) u v) l) g);
        every = λ s l p. found s (some_at _ no_entry (entries_in t) (h.every s l p));
      }
    where
      at : (j : ℕ) → j < used_of t → get_or (entries_in t) j no_entry ≡ entry_at t.pool t.spots j
      at = entries_at t.pool t.spots (used_of t) u v

      found : (s : ℕ) → (j : ℕ) × (j < length (entries_in t)) × (slot_of (get_or (entries_in t) j no_entry) ≡ s) → (j : ℕ) × (j < used_of t) × (slot_of (entry_at t.pool t.spots j) ≡ s)
      found s w =
          let l : w.0 < used_of t = rw (entries-length t.pool t.spots (used_of t) u v) at w.1 in
          (w.0, l, rw (at w.0 l) at w.2)

-- ---- tables that hold a grid
module _ (t : Tables) (h : Holds t) where
  pub listing : Listing t (entries_in t)
  listing = to_listing t (used_in_pool t h) (used_in_spots t h) h.lists

  pub rows_in_lem : PackedRows (take (used_of t) t.pool) (cell_rows t)
  rows_in_lem = to_rows (used_of t) (rows_of t) t.pool t.cells (used_in_pool t h) (rows_in_cells t h) h.packed

  -- a slot that is not occupied is named by no entry
  pub unnamed : (s : ℕ) → (phase_at t.nums s ≡ live → ⊥) → All (λ e. slot_of e ≡ s → ⊥) (entries_in t)
  unnamed s n = all_map (Named t) _ (λ e m q. n (rw q at m.occupied)) (entries_in t) listing.each
