-- Clearing leaves tables that hold a grid: no slot is live, each that was is at its next version or retired, and no entry is in use.
-- Assumes nothing.
use Rattle.basics.specs.Words.{ℕ, ◌<◌, ◌≤◌, ◌≡◌, ◌∙◌, length, length-map, arith}
use Rattle.slots.specs.Meaning.Map.{head}
use Rattle.slots.specs.Meaning.Slot.{live, phase_at, SlotsHold}
use Rattle.storage.specs.Meaning.Packed.{Packed}
use Rattle.point_tables.specs.Meaning.Tables.{Tables, size_of, used_of, rows_of, Sized}
use Rattle.point_tables.specs.Meaning.Holds.{Counted, ListsHold, Holds}
use Rattle.slot_walks.specs.Meaning.Cleared.{cleared_row, cleared_rows, cleared_map}
use Rattle.slot_walks.proofs.laws.ClearedLaws as Slots
use Rattle.slot_walks.proofs.laws.ClearedLaws.{cleared-map-length, cleared-map-head, cleared-slots}
use Rattle.point_clear.specs.Meaning.Clear.{cleared}
use Rattle.point_tables.proofs.laws.HeadLaws.{counted-used, counted-rows, counted-size, counted-length, counted-slots}

pub cleared-none : (t : Tables) (s : ℕ) → phase_at (cleared t).nums s ≡ live → ⊥
unfolding cleared
cleared-none t = Slots.cleared-none t.nums

-- ---- the tables
module _ (t : Tables) (h : Holds t) where
  heads : head ≤ length (cleared_map 0 t.nums t.map)
  heads = rw (cleared-map-length t.nums 0 t.map) (omega (arith, h.sized.of_map))

  pub cleared-used : used_of (cleared t) ≡ 0
  unfolding cleared
  cleared-used = counted-used (cleared_map 0 t.nums t.map) 0 0 heads

  pub cleared-rows : rows_of (cleared t) ≡ 0
  unfolding cleared
  cleared-rows = counted-rows (cleared_map 0 t.nums t.map) 0 0 heads

  keeps_size : size_of (cleared t) ≡ size_of t
  unfolding cleared
  keeps_size = counted-size (cleared_map 0 t.nums t.map) 0 0 heads ∙ cleared-map-head t.nums 0 t.map 0 (omega arith)

  keeps_sized : Sized (cleared t)
  unfolding cleared
  keeps_sized =
      rw (length-map t.nums cleared_row)
      (record {
        some = h.sized.some;
        most = h.sized.most;
        of_reals = h.sized.of_reals;
        of_ints = h.sized.of_ints;
        of_map = counted-length (cleared_map 0 t.nums t.map) 0 0 heads ∙ cleared-map-length t.nums 0 t.map ∙ h.sized.of_map;
        of_pool = h.sized.of_pool;
        of_spots = h.sized.of_spots;
        of_cells = h.sized.of_cells;
      })

  keeps_counted : Counted (cleared t)
  keeps_counted = record { size = rw keeps_size h.counted.size; used-most = omega (arith, cleared-used); rows-most = omega (arith, cleared-rows) }

  keeps_slots : SlotsHold (cleared t).nums (cleared t).map
  unfolding cleared
  keeps_slots = counted-slots (cleared_map 0 t.nums t.map) 0 0 heads (cleared_rows t.nums) (cleared-slots t.nums t.map h.slots h.sized.of_map)

  -- no entry and no row is in use
  no_entry_lem : {G : Type 0} (j : ℕ) → j < used_of (cleared t) → G
  no_entry_lem j l = absurd (omega (arith, cleared-used))

  no_row : {G : Type 0} (r : ℕ) → r < rows_of (cleared t) → G
  no_row r l = absurd (omega (arith, cleared-rows))

  keeps_packed : Packed (used_of (cleared t)) (rows_of (cleared t)) (cleared t).pool (cleared t).cells
  keeps_packed =
      record {
        ordered = λ i j l m. no_entry_lem j l;
        ascending = λ i j l m. no_row j l;
        has_row = λ j l. no_entry_lem j l;
        has_list = λ r l. no_row r l;
        marks = λ r l. no_row r l;
      }

  keeps_lists : ListsHold (cleared t)
  keeps_lists = record { each = λ j l. no_entry_lem j l; once = λ i j l m e. no_entry_lem j l; every = λ s l e. absurd (cleared-none t s e) }

  pub cleared_keeps : Holds (cleared t)
  cleared_keeps =
      record {
        sized = keeps_sized;
        counted = keeps_counted;
        slots = keeps_slots;
        records = λ s l e. absurd (cleared-none t s e);
        packed = keeps_packed;
        lists = keeps_lists;
        dirty = λ s l q r m. no_row r m;
      }
