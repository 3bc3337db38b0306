-- The entries without those of an occupied slot: in order, with none of the slot, and every other box where it stood. Assumes nothing.
use Rattle.basics.specs.Words.{ℕ, ◌+◌, ◌<◌, ◌≤◌, ◌≡◌, sym, ◌∙◌, ap, Bool, false, [], length, eqb, arith, eqb-false, ne_eqb}
use Rattle.cells.specs.Inner.Numbers.{Near}
use Rattle.slots.specs.Meaning.Slot.{live, phase_at}
use Rattle.storage.specs.Meaning.Keyed.{All, filter}
use Rattle.storage.specs.Inner.Keyed.{Sorted}
use Rattle.storage.specs.Meaning.Entries.{row_key, row_item, is_item}
use Rattle.storage.proofs.laws.FilterLaws.{all_map, all_both, filter_none}
use Rattle.box_cover.proofs.laws.ListLaws.{filter_empty}
use Rattle.box_cover.proofs.laws.LeaveLaws.{left-sorted, left_all_lem, left-length, left-none, left_keeps}
use Rattle.box_tables.specs.Meaning.Tables.{Tables, size_of, used_of, slots_of, entries_in, aabb_on, low_cell, high_cell, covers, item_of, item_on}
use Rattle.box_tables.specs.Meaning.Holds.{Holds}
use Rattle.box_tables.proofs.laws.BoxLaws.{item-same}
use Rattle.box_tables.proofs.laws.HoldsLaws.{Named, StandsOn, item_on_same, entries-length, entries_sorted, entries-named, low_near, high-near}
use Rattle.box_insert.proofs.laws.ChangeLaws.{OfOther}
use Rattle.box_remove.specs.Meaning.Remove.{entries_without}

module _ (t : Tables) (h : Holds t) (s : ℕ) (inside : s < slots_of t) (is_live : phase_at t.nums s ≡ live) where
  na : Near (low_cell (size_of t) (aabb_on t s))
  na = low_near t h s inside is_live

  nb : Near (high_cell (size_of t) (aabb_on t s))
  nb = high-near t h s inside is_live

  stands : StandsOn t (entries_in t) s
  stands = h.every s inside is_live

  pub without_sorted : Sorted row_key (entries_without t s)
  without_sorted = left-sorted _ _ (item_on t s) (entries_in t) (entries_sorted t h)

  pub without_length : length (entries_without t s) + covers (size_of t) (aabb_on t s) ≡ used_of t
  without_length = left-length _ _ na nb (item_on t s) (entries_in t) stands ∙ entries-length t h

  pub without_fits : length (entries_without t s) ≤ length t.pool
  without_fits = omega (arith, without_length, h.counted.used-most)

  none : All (λ r. is_item (item_on t s) r ≡ false) (entries_without t s)
  none = filter_empty (is_item (item_on t s)) (entries_without t s) (omega (arith, ap length (left-none _ _ na nb (item_on t s) (entries_in t) stands (entries_sorted t h))))

  -- every entry that is left is another slot's
  pub without_other : All (OfOther t s) (entries_without t s)
  without_other =
      all_both (Named t) _ (OfOther t s) (λ r w f. record { named = w; other = λ q. eqb-false (row_item r) (item_on t s) f (w.item ∙ ap (item_on t) q) }) (entries_without t s)
      (left_all_lem _ _ (item_on t s) (entries_in t) (Named t) (entries-named t h)) none

  -- with either mark
  pub without_none : (m : Bool) → filter (is_item (item_of s m)) (entries_without t s) ≡ []
  without_none m =
      filter_none (is_item (item_of s m)) (entries_without t s)
      (all_map (OfOther t s) _ (λ r w. ne_eqb (row_item r) (item_of s m) (λ e. w.other (item-same w.named.slot s (eqb (covers (size_of t) (aabb_on t w.named.slot)) 1) m (sym w.named.item ∙ e)))) (entries_without t s) without_other)

  pub without_keeps : (i : ℕ) → (i ≡ s → ⊥) → StandsOn t (entries_in t) i → StandsOn t (entries_without t s) i
  without_keeps i n st = left_keeps _ _ na nb (item_on t s) (entries_in t) stands (entries_sorted t h) (item_on t i) (λ q. n (item_on_same t i s q)) _ _ st
