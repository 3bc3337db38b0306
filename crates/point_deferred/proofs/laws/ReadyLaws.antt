-- Tables that hold a grid are ready for a deferred call, and so they are without the pool. Assumes nothing.
use Rattle.basics.specs.Words.{ℕ, ◌<◌, ◌≡◌, ap, ◌∙◌, List, [], ◌∷◌, set, length-take-le, get_or-take, arith}
use lib.Ieee.{Float}
use Rattle.cells.specs.Meaning.Key.{key_of}
use Rattle.storage.specs.Meaning.Keyed.{written}
use Rattle.storage.specs.Meaning.Entries.{row_key}
use Rattle.storage.specs.Meaning.CellTable.{marked}
use Rattle.storage.specs.Inner.Tables.{Rising}
use Rattle.storage.specs.Meaning.Packed.{first}
use Rattle.storage.proofs.laws.PackedLaws.{ascending-rising}
use Rattle.storage.proofs.laws.CellTableLaws.{marked-set}
use Rattle.storage.proofs.laws.PlaceLaws.{written-set}
use Rattle.point_tables.specs.Meaning.Tables.{Tables, tables, rows_of, record_on, cell_rows}
use Rattle.point_tables.specs.Meaning.Holds.{Holds}
use Rattle.point_deferred.specs.Inner.Ready.{Ready}

pub holds_ready : (t : Tables) → Holds t → Ready t
holds_ready t h =
    record {
      of_reals = h.sized.of_reals;
      of_ints = h.sized.of_ints;
      of_map = omega (arith, h.sized.of_map);
      size = h.counted.size;
      of_cells = omega (arith, h.counted.rows-most, h.sized.of_cells);
      ascending = h.packed.ascending;
      has_row = λ s l p.
          let e = h.lists.every s l p in
          let r = h.packed.has_row e.0 e.1 in
          (r.0, r.1, r.2 ∙ (h.lists.each e.0 e.1).key ∙ ap (λ (k : ℕ). key_of (record_on t k).cell) e.2);
    }

-- the pool does not matter
pub ready_pool : (t : Tables) (pool : List (List ℕ)) (spots : List (List Float)) → Ready (tables t.nums t.reals t.ints t.map pool spots t.cells) → Ready t
ready_pool t pool spots r =
    record { of_reals = r.of_reals; of_ints = r.of_ints; of_map = r.of_map; size = r.size; of_cells = r.of_cells; ascending = r.ascending; has_row = r.has_row }

module _ (t : Tables) (ready : Ready t) where
  pub rows_rise : Rising row_key (cell_rows t)
  rows_rise = ascending-rising (rows_of t) t.cells ready.of_cells ready.ascending

  -- the mark of a cell that has a row is one store, since no other row has its key
  pub marked_is : (k r : ℕ) → r < rows_of t → first t.cells r ≡ k → written (marked k (cell_rows t)) t.cells ≡ set t.cells r (k ∷ 1 ∷ [])
  marked_is k r h e =
      ap (λ (m : List (List ℕ)). written m t.cells)
      (marked-set k (cell_rows t) r (rw (length-take-le (rows_of t) t.cells ready.of_cells) h) (rw (get_or-take (rows_of t) t.cells r [] h) e) rows_rise)
      ∙ written-set t.cells r (rows_of t) (k ∷ 1 ∷ []) h ready.of_cells
