-- What the code of a removal is asked for at each step, and what it makes. Assumes nothing.
use Rattle.basics.specs.Words.{ℕ, ◌≤◌, ◌≡◌, sym, ap, ◌∙◌, Bool, List, map, length, take, length-map}
use Rattle.basics.specs.Words.{arith}
use lib.Ieee.{Float}
use Rattle.cells.specs.Meaning.Key.{key_of}
use Rattle.slots.specs.Meaning.Slot.{emptied_nums, emptied_map}
use Rattle.storage.specs.Inner.Keyed.{Sorted}
use Rattle.storage.specs.Meaning.Keyed.{under, written}
use Rattle.storage.specs.Meaning.Entries.{Entry, row_key, row_of}
use Rattle.storage.proofs.laws.KeepsLaws.{written-take}
use Rattle.storage.proofs.laws.WrittenLaws.{length-written}
use Rattle.storage.specs.Inner.Tables.{Rising}
use Rattle.storage.specs.Inner.Pooled
use Rattle.storage.proofs.laws.PackedLaws.{ascending-rising}
use Rattle.point_records.specs.declared.Record.{Record}
use Rattle.point_tables.specs.Meaning.Tables.{Tables, tables, counting, used_of, rows_of, record_on, cell_rows}
use Rattle.point_tables.specs.Meaning.Outcome.{outcome}
use Rattle.point_remove.specs.Meaning.RemoveMaintain.{is_empty, entries_without, rows_without, taken_out}
use Rattle.point_remove.specs.Inner.{rows_by}
use Rattle.point_tables.proofs.laws.ListedLaws.{rows_in_lem}
use Rattle.point_tables.proofs.laws.HoldsLaws.{used_in_pool, used_in_spots, rows_in_cells}
use Rattle.point_remove.proofs.laws.TakenLaws.{one_less, same_empty, new-rows}
use Rattle.point_remove.specs.Inner.{Object}

module _ (t : Tables) (s : ℕ) (o : Object t s) where
  -- ---- what is asked of the steps
  pub take-asks : (used_of t ≤ length t.pool) × (used_of t ≤ length t.spots) × Sorted row_key (take (used_of t) t.pool)
  take-asks = (used_in_pool t o.held, used_in_spots t o.held, (rows_in_lem t o.held).ordered)

  pub cells-asks : (rows_of t ≤ length t.cells) × Rising row_key (take (rows_of t) t.cells)
  cells-asks = (rows_in_cells t o.held, ascending-rising (rows_of t) t.cells (rows_in_cells t o.held) o.held.packed.ascending)

  -- ---- the entry is taken out: what is left, and the column of its rows
  module _ (r : Record) (key : ℕ) (er : r ≡ record_on t s) (ek : key ≡ key_of r.cell) where
    own_key : key ≡ key_of (record_on t s).cell
    own_key = ek ∙ ap (λ (x : Record). key_of x.cell) er

    same_entries : Pooled.entries_without (used_of t) key s t.pool t.spots ≡ entries_without t s
    same_entries = rw own_key

    module _ (left : ℕ) (pool : List (List ℕ)) (spots : List (List Float)) (e : (left ≡ length (Pooled.entries_without (used_of t) key s t.pool t.spots)) × Pooled.Columns (Pooled.entries_without (used_of t) key s t.pool t.spots) t.pool t.spots pool spots) where
      left_is : left ≡ length (entries_without t s)
      left_is = e.0 ∙ ap length same_entries

      pool_is : pool ≡ written (map row_of (entries_without t s)) t.pool
      pool_is = e.1.in_rows ∙ ap (λ (l : List Entry). written (map row_of l) t.pool) same_entries

      rows_are : take left pool ≡ map row_of (entries_without t s)
      rows_are = ap (take left) pool_is ∙ written-take (map row_of (entries_without t s)) t.pool left (left_is ∙ sym (length-map (entries_without t s) row_of))

      pub pool-asks : (left ≤ length pool) × Sorted row_key (take left pool)
      pool-asks =
          let n = length-map (entries_without t s) row_of in
          let m = one_less t o.held s o.inside o.occupied in
          let l = length-written (map row_of (entries_without t s)) t.pool (omega (arith, n, m, used_in_pool t o.held)) in
          (omega (arith, left_is, m, used_in_pool t o.held, ap length pool_is ∙ l), rw rows_are (new-rows t o.held s o.inside o.occupied).ordered)

      -- ---- the rows of the cells, and the whole
      same_rows : rows_by (is_empty (under row_key key (take left pool))) key (take (rows_of t) t.cells) ≡ rows_without t s
      same_rows =
          rw (own_key, rows_are) (ap (λ (b : Bool). rows_by b (key_of (record_on t s).cell) (cell_rows t)) (same_empty t o.held s o.inside o.occupied))

      pub taken_is : (ns : List (List ℕ)) (m : List ℕ) (cells : List (List ℕ)) (kept : ℕ)
          → (kept ≡ length (rows_by (is_empty (under row_key key (take left pool))) key (take (rows_of t) t.cells))) × (cells ≡ written (rows_by (is_empty (under row_key key (take left pool))) key (take (rows_of t) t.cells)) t.cells)
          → ns ≡ emptied_nums t.nums s → m ≡ counting (emptied_map t.nums t.map s) left kept
          → outcome r.obj (tables ns t.reals t.ints m pool spots cells) ≡ outcome (record_on t s).obj (taken_out t s)
      unfolding taken_out
      taken_is ns m cells kept k en em =
          let a = same_entries in
          let b = same_rows in
          let c = ap (λ (x : Record). x.obj) er in
          cc
