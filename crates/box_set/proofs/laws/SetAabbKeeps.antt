-- An accepted `set_aabb` leaves tables that hold a grid, whether the corner cells stay or not. Assumes nothing.
use Rattle.basics.specs.Words.{ℕ, ◌+◌, ◌<◌, ◌≤◌, ◌≡◌, refl, ◌∙◌, ap, ap₂, Bool, true, false, List, [], ◌⊎◌, inl, inr, ⊎_elim, length, get_or, set, take, drop}
use Rattle.basics.specs.Words.{length-set, get_or-set_same, get_or-set_other, take-append_seam, T, eqb, arith}
use Rattle.basics.specs.Meaning.Limits.{most_cells}
use Rattle.basics.proofs.laws.Says.{d_eq, said_says}
use Rattle.basics.specs.Meaning.Refusals.{pick}
use Rattle.geometry.specs.declared.Aabb.{Aabb}
use Rattle.geometry.specs.Meaning.Domain.{aabb_in_domain}
use Rattle.cells.proofs.laws.Numbers.{cell_ext}
use Rattle.cells.specs.Meaning.Range.{cells_in}
use Rattle.slots.specs.Meaning.Slot.{live, phase_at, SlotsHold}
use Rattle.storage.specs.Meaning.Keyed.{All, written}
use Rattle.storage.specs.Inner.Keyed.{Sorted}
use Rattle.storage.specs.Meaning.Entries.{row_key, row_item}
use Rattle.storage.proofs.laws.FilterLaws.{all_map}
use Rattle.storage.proofs.laws.WrittenLaws.{length-written}
use Rattle.box_cover.specs.Meaning.Coverage.{Stands}
use Rattle.box_cover.proofs.laws.EnterLaws.{entered-sorted, entered-length, entered_all_lem, entered-stands, entered_keeps}
use Rattle.box_tables.specs.Meaning.Tables.{Tables, size_of, used_of, slots_of, entries_in, aabb_on, low_cell, high_cell, covers, item_of, item_for, item_on}
use Rattle.box_tables.specs.Meaning.Tables.{Sized, corners_of}
use Rattle.box_tables.specs.Meaning.Holds.{Holds}
use Rattle.box_tables.proofs.laws.BoxLaws.{low_near, high-near, item-same}
use Rattle.box_tables.proofs.laws.HoldsLaws.{Named, StandsOn, entries_sorted, entries-named}
use Rattle.box_tables.proofs.laws.HeadLaws.{counted-used, counted-size, counted-length, counted-slots}
use Rattle.box_insert.proofs.laws.ChangeLaws.{Others, OfOther, Kept, changed-holds}
use Rattle.box_remove.specs.Meaning.Remove.{entries_without}
use Rattle.box_set.specs.Meaning.SetAabb.{d_stay, cells_stay, box_recorded, entries_moved, box_moved, with_other_box}
use Rattle.box_remove.proofs.laws.WithoutLaws.{without_sorted, without_length, without_other, without_none, without_keeps, without_fits}

-- ---- box b takes the place of the box of slot s, which is live
module _ (t : Tables) (h : Holds t) (s : ℕ) (inside : s < slots_of t) (is_live : phase_at t.nums s ≡ live) (b : Aabb) where
  -- tables that have b in the row of s, and besides what another count and another pool must have
  record Placed (u : Tables) : Type 0 where
    same-nums : u.nums ≡ t.nums
    corners : u.reals ≡ set t.reals s (corners_of b)
    same_size : size_of u ≡ size_of t
    same_map : length u.map ≡ length t.map
    same-pool : length u.pool ≡ length t.pool
    used-most : used_of u ≤ length t.pool
    slots : SlotsHold t.nums u.map

  module _ (u : Tables) (p : Placed u) where
    at_slot : get_or u.reals s [] ≡ corners_of b
    at_slot = rw p.corners (get_or-set_same t.reals s (corners_of b) [] (rw h.sized.of_reals inside))

    others : Others t u s
    others = record { same_size = p.same_size; same-slots = ap length p.same-nums; same_phase = λ i n. rw p.same-nums; same-corners = λ i n. rw p.corners (get_or-set_other t.reals s i (corners_of b) [] n) }

    sized : Sized u
    sized = rw (p.same-nums, p.corners, length-set t.reals s (corners_of b), p.same_map, p.same-pool) h.sized

    -- they hold a grid if their entries are those of the other boxes and of b, where each must stand
    placed-holds :
        T (aabb_in_domain b) → covers (size_of t) b ≤ most_cells → (rows : List (List ℕ)) → entries_in u ≡ rows → Sorted row_key rows
        → All (λ r. OfOther t s r ⊎ (row_item r ≡ item_for (size_of t) s b)) rows
        → ((i : ℕ) → (i ≡ s → ⊥) → StandsOn t (entries_in t) i → StandsOn t rows i)
        → Stands (low_cell (size_of t) b) (high_cell (size_of t) b) (item_for (size_of t) s b) rows → Holds u
    placed-holds within_domain few rows e sorted kept keeps stands =
        let own : item_for (size_of t) s b ≡ item_on u s = rw (p.same_size, at_slot) in
        let still : phase_at u.nums s ≡ live = rw p.same-nums is_live in
        changed-holds t u s others h inside rows sized
        (record { size = rw p.same_size h.counted.size; used-most = rw p.same-pool p.used-most })
        (rw p.same-nums p.slots)
        (λ z. record { within_domain = rw at_slot within_domain; cells-most = rw (p.same_size, at_slot) few })
        e sorted
        (all_map _ (Kept t u s others) (λ r k. ⊎_elim inl (λ q. inr (still, q ∙ own)) k) rows kept)
        keeps
        (λ z. rw (p.same_size, at_slot) stands)

  -- ---- the corner cells stay
  module _ (stay : cells_stay (size_of t) (aabb_on t s) b ≡ true) where
    low_same : low_cell (size_of t) (aabb_on t s) ≡ low_cell (size_of t) b
    low_same = let w = ((said_says (d_stay _ _ _ _)).yes stay).0 in cell_ext w.0 w.1

    high_same : high_cell (size_of t) (aabb_on t s) ≡ high_cell (size_of t) b
    high_same = let w = ((said_says (d_stay _ _ _ _)).yes stay).1 in cell_ext w.0 w.1

    covers-same : covers (size_of t) (aabb_on t s) ≡ covers (size_of t) b
    covers-same = ap₂ cells_in low_same high_same

    item-stays : item_on t s ≡ item_for (size_of t) s b
    item-stays = ap (λ (n : ℕ). item_of s (eqb n 1)) covers-same

    rec_used : used_of (box_recorded t s b) + covers (size_of t) (aabb_on t s) ≡ used_of t + covers (size_of t) b
    unfolding box_recorded
    rec_used = omega (arith, covers-same)

    rec_placed : Placed (box_recorded t s b)
    unfolding box_recorded
    rec_placed = record { same-nums = refl; corners = refl; same_size = refl; same_map = refl; same-pool = refl; used-most = h.counted.used-most; slots = h.slots }

    rec_entries : entries_in (box_recorded t s b) ≡ entries_in t
    unfolding box_recorded
    rec_entries = refl

    recorded_keeps : T (aabb_in_domain b) → Holds (box_recorded t s b)
    recorded_keeps within_domain =
        placed-holds (box_recorded t s b) rec_placed within_domain (rw covers-same at (h.boxes s inside is_live).cells-most) (entries_in t) rec_entries (entries_sorted t h)
        (all_map (Named t) _ (λ r w.
        elim (d_eq w.slot s) [
          | inl q ↦ inr (w.item ∙ ap (item_on t) q ∙ item-stays)
          | inr n ↦ inl (record { named = w; other = n })
        ])
        (entries_in t) (entries-named t h))
        (λ i n st. st)
        (rw (← low_same, ← high_same) (h.every s inside is_live))

  -- ---- they do not
  moved-used : used_of (box_moved t s b) ≡ length (entries_moved t s b)
  unfolding box_moved
  moved-used = counted-used t.map _ (omega (arith, h.sized.of_map))

  -- the entries: the old ones of the box are out, its new ones in
  moved_length : length (entries_moved t s b) + covers (size_of t) (aabb_on t s) ≡ used_of t + covers (size_of t) b
  moved_length =
      omega (arith, entered-length (low_cell (size_of t) b) (high_cell (size_of t) b) (item_for (size_of t) s b) (entries_without t s), without_length t h s inside is_live)

  moved-entries : entries_in (box_moved t s b) ≡ entries_moved t s b
  moved-entries = ap (λ (k : ℕ). take k (box_moved t s b).pool) moved-used ∙ as_written
    where
      as_written : take (length (entries_moved t s b)) (box_moved t s b).pool ≡ entries_moved t s b
      as_written = unfold box_moved in take-append_seam (entries_moved t s b) (drop (length (entries_moved t s b)) (written (entries_without t s) t.pool))

  module _ (within_domain : T (aabb_in_domain b)) (few : covers (size_of t) b ≤ most_cells) (room : used_of t + covers (size_of t) b ≤ length t.pool + covers (size_of t) (aabb_on t s)) where
    moved-placed : Placed (box_moved t s b)
    unfolding box_moved
    moved-placed =
        let e = length-written (entries_without t s) t.pool (without_fits t h s inside is_live) in
        let fits : length (entries_moved t s b) ≤ length t.pool = omega (arith, moved_length) in
        record {
          same-nums = refl;
          corners = refl;
          same_size = counted-size t.map _;
          same_map = counted-length t.map _;
          same-pool = length-written (entries_moved t s b) (written (entries_without t s) t.pool) (omega (arith, e)) ∙ e;
          used-most = rw moved-used fits;
          slots = counted-slots t.map _ t.nums h.slots;
        }

    moved_keeps : Holds (box_moved t s b)
    moved_keeps =
        let sorted = without_sorted t h s inside is_live in
        placed-holds (box_moved t s b) moved-placed within_domain few (entries_moved t s b) moved-entries
        (entered-sorted _ _ (item_for (size_of t) s b) (entries_without t s) sorted)
        (entered_all_lem _ _ (item_for (size_of t) s b) (entries_without t s) _ (all_map _ _ (λ r w. inl w) (entries_without t s) (without_other t h s inside is_live)) (λ c. inr refl))
        (λ i n st.
        entered_keeps _ _ (item_for (size_of t) s b) (entries_without t s) sorted (low_cell (size_of t) (aabb_on t i)) (high_cell (size_of t) (aabb_on t i)) (item_on t i)
        (λ q. n (item-same i s (eqb (covers (size_of t) (aabb_on t i)) 1) (eqb (covers (size_of t) b) 1) q)) (without_keeps t h s inside is_live i n st))
        (entered-stands _ _ (item_for (size_of t) s b) (entries_without t s)
        (low_near b within_domain (size_of t)) (high-near b within_domain (size_of t)) sorted (without_none t h s inside is_live (eqb (covers (size_of t) b) 1)))

    -- ---- either way
    pub other_box_keeps : Holds (with_other_box t s b)
    unfolding with_other_box
    other_box_keeps = go (cells_stay (size_of t) (aabb_on t s) b) refl
      where
        go : (p : Bool) → cells_stay (size_of t) (aabb_on t s) b ≡ p → Holds (pick p (box_recorded t s b) (box_moved t s b))
        go true e = recorded_keeps e within_domain
        go false e = moved_keeps

  -- entries in use, less the box's old ones, plus its new ones
  pub other_box_used : used_of (with_other_box t s b) + covers (size_of t) (aabb_on t s) ≡ used_of t + covers (size_of t) b
  unfolding with_other_box
  other_box_used = go (cells_stay (size_of t) (aabb_on t s) b) refl
    where
      go : (p : Bool) → cells_stay (size_of t) (aabb_on t s) b ≡ p → used_of (pick p (box_recorded t s b) (box_moved t s b)) + covers (size_of t) (aabb_on t s) ≡ used_of t + covers (size_of t) b
      go true e = rec_used e
      go false e = omega (arith, moved-used, moved_length)
