-- What the work of an insert asks of its calls, and what they leave, put together. Assumes nothing.
use Rattle.basics.specs.Words.{ℕ, ◌+◌, ◌<◌, ◌≡◌, ◌∙◌, ap, List, length, set, take, ℤ, arith}
use lib.Ieee.{Float}
use Rattle.geometry.specs.declared.Position.{Position}
use Rattle.cells.specs.declared.Cell.{Cell}
use Rattle.cells.specs.Meaning.CellRule.{cell_at}
use Rattle.cells.specs.Meaning.Key.{key_of}
use Rattle.slots.specs.Meaning.Map.{taken}
use Rattle.slots.specs.Meaning.Slot.{version_at}
use Rattle.storage.specs.Inner.Keyed.{Sorted}
use Rattle.storage.specs.Meaning.Keyed.{written}
use Rattle.storage.specs.Meaning.Entries.{row_key}
use Rattle.storage.specs.Meaning.CellTable.{entered}
use Rattle.storage.specs.Inner.Pooled
use Rattle.storage.specs.Inner.Pooled.{Columns}
use Rattle.point_records.specs.Meaning.Columns.{nums_of, reals_of, ints_of}
use Rattle.point_records.specs.Inner.Listed.{entry_row, entry_spot}
use Rattle.point_tables.specs.Meaning.Tables.{Tables, tables, size_of, used_of, rows_of, counting, slots_of}
use Rattle.point_insert.specs.Meaning.Insert.{entries_with, rows_with, put}
use Rattle.point_insert.specs.Inner.Fresh.{Fresh, fresh_record}
use Rattle.point_insert.proofs.laws.EnterLaws.{rows-least}
use Rattle.point_tables.proofs.laws.ListedLaws.{rows_in_lem}
use Rattle.point_tables.proofs.laws.RoomLaws.{room}
use Rattle.point_insert.proofs.laws.PutLaws.{more}

module _ (t : Tables) (s : ℕ) (p : Position) (f : Fresh t s p) where
  one_more : used_of t < slots_of t
  one_more = room t f.holds s f.inside (λ e. omega (arith, f.is_free))

  pub append-asks : (used_of t < length t.pool) × (used_of t < length t.spots) × Sorted row_key (take (used_of t) t.pool)
  append-asks = (omega (arith, one_more, f.holds.sized.of_pool), omega (arith, one_more, f.holds.sized.of_spots), (rows_in_lem t f.holds).ordered)

  pub enter_asks : (rows_of t < length t.cells) × Sorted row_key (take (rows_of t) t.cells)
  enter_asks = (omega (arith, one_more, rows-least _ _ _ _ f.holds.packed, f.holds.sized.of_cells), (rows_in_lem t f.holds).in_order)

  -- ---- the exit tables, by what each call ensures
  module _ (d w : ℕ) (c : Cell) (k : ℕ) (row : List ℕ) (spot : List Float)
      (ec : c ≡ cell_at (size_of t) p) (ek : k ≡ key_of c)
      (ew : row ≡ entry_row k (record { slot = s; position = p })) (es : spot ≡ entry_spot (record { slot = s; position = p })) where
    key_is : k ≡ key_of (cell_at (size_of t) p)
    key_is = ek ∙ ap key_of ec

    entries-are : Pooled.entries_with (used_of t) row spot t.pool t.spots ≡ entries_with t s p
    entries-are = rw (ew, es, key_is)

    rows_are : entered k (take (rows_of t) t.cells) ≡ rows_with t p
    rows_are = rw key_is

    pub put_is :
        (ns : List (List ℕ)) (qs : List (List Float)) (zs : List (List ℤ)) (m : List ℕ) (pool : List (List ℕ)) (spots : List (List Float)) (cells : List (List ℕ)) (n : ℕ)
        → (ns ≡ set t.nums s (nums_of (fresh_record (version_at t.nums s) p c d w)))
        × (qs ≡ set t.reals s (reals_of (fresh_record (version_at t.nums s) p c d w)))
        × (zs ≡ set t.ints s (ints_of (fresh_record (version_at t.nums s) p c d w)))
        → Columns (Pooled.entries_with (used_of t) row spot t.pool t.spots) t.pool t.spots pool spots
        → (n ≡ length (entered k (take (rows_of t) t.cells))) × (cells ≡ written (entered k (take (rows_of t) t.cells)) t.cells)
        → m ≡ counting (taken t.map s) (used_of t + 1) n
        → tables ns qs zs m pool spots cells ≡ put t s p d w
    unfolding put
    put_is ns qs zs m pool spots cells n eo ep ecs em =
        let a = entries-are in
        let b = rows_are in
        let used_is = more t f.holds s f.inside f.is_free p d w in
        cc
