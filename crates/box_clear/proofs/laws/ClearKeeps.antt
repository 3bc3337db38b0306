-- Clearing leaves tables that hold a box grid: no slot is live, and no entry is in use. Assumes nothing.
use Rattle.basics.specs.Words.{ℕ, ◌<◌, ◌≤◌, ◌≡◌, ◌∙◌, length, length-map, arith}
use Rattle.slots.specs.Meaning.Map.{head}
use Rattle.slots.specs.Meaning.Slot.{live, phase_at, SlotsHold}
use Rattle.slot_walks.specs.Meaning.Cleared.{cleared_row, cleared_rows, cleared_map}
use Rattle.slot_walks.proofs.laws.ClearedLaws as Slots
use Rattle.slot_walks.proofs.laws.ClearedLaws.{cleared-map-length, cleared-map-head, cleared-slots}
use Rattle.box_tables.specs.Meaning.Tables.{Tables, size_of, used_of, Sized}
use Rattle.box_tables.specs.Meaning.Holds.{Holds}
use Rattle.box_clear.specs.Meaning.Clear.{cleared}
use Rattle.box_tables.proofs.laws.HeadLaws.{counted-used, counted-size, counted-length, counted-slots}

module _ (t : Tables) where
  pub cleared-none : (s : ℕ) → phase_at (cleared t).nums s ≡ live → ⊥
  unfolding cleared
  cleared-none = Slots.cleared-none t.nums

  pub cleared-size : size_of (cleared t) ≡ size_of t
  unfolding cleared
  cleared-size = counted-size (cleared_map 0 t.nums t.map) 0 ∙ cleared-map-head t.nums 0 t.map 0 (omega arith)

module _ (t : Tables) (h : Holds t) where
  heads : head ≤ length (cleared_map 0 t.nums t.map)
  heads = rw (cleared-map-length t.nums 0 t.map) (omega (arith, h.sized.of_map))

  pub cleared-used : used_of (cleared t) ≡ 0
  unfolding cleared
  cleared-used = counted-used (cleared_map 0 t.nums t.map) 0 heads

  keeps_sized : Sized (cleared t)
  unfolding cleared
  keeps_sized =
      rw (length-map t.nums cleared_row)
      (record {
        some = h.sized.some;
        most = h.sized.most;
        of_reals = h.sized.of_reals;
        of_map = counted-length (cleared_map 0 t.nums t.map) 0 ∙ cleared-map-length t.nums 0 t.map ∙ h.sized.of_map;
        pool-some = h.sized.pool-some;
        pool-most = h.sized.pool-most;
      })

  keeps_slots : SlotsHold (cleared t).nums (cleared t).map
  unfolding cleared
  keeps_slots = counted-slots (cleared_map 0 t.nums t.map) 0 (cleared_rows t.nums) (cleared-slots t.nums t.map h.slots h.sized.of_map)

  no_entry_lem : {G : Type 0} (j : ℕ) → j < used_of (cleared t) → G
  no_entry_lem j l = absurd (omega (arith, cleared-used))

  pub cleared_keeps : Holds (cleared t)
  cleared_keeps =
      record {
        sized = keeps_sized;
        counted = record { size = rw (cleared-size t) h.counted.size; used-most = omega (arith, cleared-used) };
        slots = keeps_slots;
        boxes = λ s l e. absurd (cleared-none t s e);
        ordered = λ i j l. no_entry_lem j l;
        each = λ j l. no_entry_lem j l;
        every = λ s l e. absurd (cleared-none t s e);
      }
