-- Taking a box out leaves tables that hold a grid, with as many entries less as it had. Assumes nothing.
use Rattle.basics.specs.Words.{ℕ, ◌+◌, ◌<◌, ◌≤◌, ◌≡◌, refl, sym, ◌∙◌, ap, Bool, true, false, List, [], inl, length, get_or, set, take, drop, take-append_seam}
use Rattle.basics.specs.Words.{get_or-set_same, eqb, arith}
use Rattle.basics.specs.Meaning.Refusals.{pick}
use Rattle.slots.specs.Meaning.Map.{head}
use Rattle.slots.specs.Meaning.Slot.{free, live, retired, last_version, version_at, phase_at, emptied_row, emptied_nums, emptied_map, SlotsHold}
use Rattle.slots.proofs.laws.SlotLaws.{emptied-holds}
use Rattle.slots.proofs.laws.EmptyLaws.{emptied-length, emptied_other, emptied-map-length, emptied-map-head}
use Rattle.storage.proofs.laws.FilterLaws.{all_map}
use Rattle.storage.proofs.laws.WrittenLaws.{length-written}
use Rattle.box_tables.specs.Meaning.Tables.{Tables, size_of, used_of, slots_of, entries_in, aabb_on, covers, Sized}
use Rattle.box_tables.specs.Meaning.Holds.{Counted, Holds}
use Rattle.box_tables.proofs.laws.HeadLaws.{counted-used, counted-size, counted-length, counted-slots}
use Rattle.box_insert.proofs.laws.ChangeLaws.{Others, changed-holds}
use Rattle.box_remove.specs.Meaning.Remove.{entries_without, taken_out}
use Rattle.box_remove.proofs.laws.WithoutLaws.{without_sorted, without_length, without_other, without_keeps, without_fits}

-- the row of the slot after it
pub taken-row : (t : Tables) (s : ℕ) → (row : List ℕ) × (get_or row 1 0 ≡ live → ⊥) × ((taken_out t s).nums ≡ set t.nums s row)
unfolding taken_out emptied_nums
taken-row t s = (emptied_row (get_or t.nums s []), go (eqb (version_at t.nums s) last_version), refl)
  where
    go : (b : Bool) → pick b retired free ≡ live → ⊥
    go true e = omega arith
    go false e = omega arith

module _ (t : Tables) (h : Holds t) (s : ℕ) (inside : s < slots_of t) (is_live : phase_at t.nums s ≡ live) where
  heads : head ≤ length (emptied_map t.nums t.map s)
  heads = rw (emptied-map-length t.nums t.map s) (omega (arith, h.sized.of_map))

  taken-used : used_of (taken_out t s) ≡ length (entries_without t s)
  unfolding taken_out
  taken-used = counted-used (emptied_map t.nums t.map s) _ heads

  -- entries in use, less the box's
  pub taken-count : used_of (taken_out t s) + covers (size_of t) (aabb_on t s) ≡ used_of t
  taken-count = ap (λ (k : ℕ). k + covers (size_of t) (aabb_on t s)) taken-used ∙ without_length t h s inside is_live

  taken-size : size_of (taken_out t s) ≡ size_of t
  unfolding taken_out
  taken-size = counted-size (emptied_map t.nums t.map s) _ ∙ emptied-map-head t.nums t.map s 0 (omega arith)

  taken-slots : SlotsHold (taken_out t s).nums (taken_out t s).map
  unfolding taken_out
  taken-slots = counted-slots (emptied_map t.nums t.map s) _ (emptied_nums t.nums s) (emptied-holds t.nums t.map h.slots s inside h.sized.of_map is_live)

  taken-gone : phase_at (taken_out t s).nums s ≡ live → ⊥
  taken-gone e =
      let r = taken-row t s in
      r.1 (sym (ap (λ (l : List ℕ). get_or l 1 0) (get_or-set_same t.nums s r.0 [] inside)) ∙ ap (λ (l : List (List ℕ)). phase_at l s) (sym r.2) ∙ e)

  taken_others : Others t (taken_out t s) s
  unfolding taken_out
  taken_others =
      record {
        same_size = taken-size;
        same-slots = emptied-length t.nums s;
        same_phase = λ i n. ap (λ (r : List ℕ). get_or r 1 0) (emptied_other t.nums s i n);
        same-corners = λ i n. refl;
      }

  taken-entries : entries_in (taken_out t s) ≡ entries_without t s
  taken-entries = ap (λ (k : ℕ). take k (taken_out t s).pool) taken-used ∙ as_written
    where
      as_written : take (length (entries_without t s)) (taken_out t s).pool ≡ entries_without t s
      as_written = unfold taken_out in take-append_seam (entries_without t s) (drop (length (entries_without t s)) t.pool)

  pool-length : length (taken_out t s).pool ≡ length t.pool
  unfolding taken_out
  pool-length = length-written (entries_without t s) t.pool (without_fits t h s inside is_live)

  taken-sized : Sized (taken_out t s)
  unfolding taken_out
  taken-sized = rw (emptied-length t.nums s, counted-length (emptied_map t.nums t.map s) (length (entries_without t s)), emptied-map-length t.nums t.map s, pool-length) h.sized

  taken-counted : Counted (taken_out t s)
  taken-counted = record { size = rw taken-size h.counted.size; used-most = rw (taken-used, pool-length) (without_fits t h s inside is_live) }

  pub taken_keeps : Holds (taken_out t s)
  taken_keeps =
      changed-holds t (taken_out t s) s taken_others h inside (entries_without t s) taken-sized taken-counted taken-slots (λ e. absurd (taken-gone e)) taken-entries
      (without_sorted t h s inside is_live)
      (all_map _ _ (λ r w. inl w) (entries_without t s) (without_other t h s inside is_live))
      (without_keeps t h s inside is_live)
      (λ e. absurd (taken-gone e))
