-- An accepted insert leaves tables that hold a grid, part by part: the head words, the slots, the boxes and the entries. Assumes nothing.
use Rattle.basics.specs.Words.{ℕ, ◌+◌, ◌<◌, ◌≤◌, ◌≡◌, refl, sym, ◌∙◌, ap, [], ◌∷◌, inl, inr, length, get_or, take, drop, length-set, get_or-set_same}
use Rattle.basics.specs.Words.{get_or-set_other, take-append_seam, T, eqb, arith}
use Rattle.basics.specs.Meaning.Limits.{most_cells}
use Rattle.geometry.specs.declared.Aabb.{Aabb}
use Rattle.geometry.specs.Meaning.Domain.{aabb_in_domain}
use Rattle.slots.specs.Meaning.Map.{head, taken}
use Rattle.slots.specs.Meaning.Slot.{free, live, version_at, phase_at, SlotsHold}
use Rattle.slots.proofs.laws.MapLaws.{taken-length, taken-head}
use Rattle.slots.proofs.laws.SlotLaws.{taken-holds}
use Rattle.storage.specs.Meaning.Keyed.{All}
use Rattle.storage.proofs.laws.FilterLaws.{all_map}
use Rattle.storage.proofs.laws.WrittenLaws.{length-written}
use Rattle.box_cover.proofs.laws.EnterLaws.{entered-sorted, entered-length, entered_all_lem, entered-stands, entered_keeps}
use Rattle.box_tables.specs.Meaning.Tables.{Tables, size_of, used_of, slots_of, entries_in, aabb_on, low_cell, high_cell, covers, item_for, item_on, Sized}
use Rattle.box_tables.specs.Meaning.Tables.{corners_of}
use Rattle.box_tables.specs.Meaning.Holds.{Counted, BoxHolds, Holds}
use Rattle.box_tables.proofs.laws.BoxLaws.{low_near, high-near, item-same}
use Rattle.box_tables.proofs.laws.HoldsLaws.{StandsOn, entries-length, entries_sorted, entries-named, unnamed}
use Rattle.box_insert.specs.Meaning.Insert.{entries_with, put}
use Rattle.box_tables.proofs.laws.HeadLaws.{counted-used, counted-size, counted-length, counted-slots}
use Rattle.box_insert.proofs.laws.ChangeLaws.{Others, Kept, changed-holds}

-- ---- a free slot s of tables that hold a grid takes box b
module _ (t : Tables) (h : Holds t) (s : ℕ) (inside : s < slots_of t) (is_free : phase_at t.nums s ≡ free) (b : Aabb) (d : ℕ) where
  not_live : phase_at t.nums s ≡ live → ⊥
  not_live e = omega arith

  in_reals : s < length t.reals
  in_reals = rw h.sized.of_reals inside

  heads : head ≤ length (taken t.map s)
  heads = rw (taken-length t.map s) (omega (arith, h.sized.of_map))

  -- ---- the head words
  pub put-used : used_of (put t s b d) ≡ used_of t + covers (size_of t) b
  unfolding put
  put-used = counted-used (taken t.map s) _ heads

  put-size : size_of (put t s b d) ≡ size_of t
  unfolding put
  put-size = counted-size (taken t.map s) _ ∙ taken-head t.map s 0 (omega arith)

  -- ---- the rows
  put-slots : SlotsHold (put t s b d).nums (put t s b d).map
  unfolding put
  put-slots =
      counted-slots (taken t.map s) _ _
      (taken-holds t.nums t.map h.slots s inside h.sized.of_map is_free (version_at t.nums s ∷ live ∷ d ∷ 0 ∷ []) refl refl)

  put-corners : get_or (put t s b d).reals s [] ≡ corners_of b
  unfolding put
  put-corners = get_or-set_same t.reals s (corners_of b) [] in_reals

  pub put-live : phase_at (put t s b d).nums s ≡ live
  unfolding put
  put-live = rw (get_or-set_same t.nums s (version_at t.nums s ∷ live ∷ d ∷ 0 ∷ []) [] inside)

  put_others : Others t (put t s b d) s
  unfolding put
  put_others =
      record {
        same_size = put-size;
        same-slots = length-set t.nums s _;
        same_phase = λ i n. rw (get_or-set_other t.nums s i (version_at t.nums s ∷ live ∷ d ∷ 0 ∷ []) [] n);
        same-corners = λ i n. get_or-set_other t.reals s i (corners_of b) [] n;
      }

  -- ---- the entries
  pub more : length (entries_with t s b) ≡ used_of t + covers (size_of t) b
  more = entered-length (low_cell (size_of t) b) (high_cell (size_of t) b) (item_for (size_of t) s b) (entries_in t) ∙ ap (λ (k : ℕ). k + covers (size_of t) b) (entries-length t h)

  put_entries : entries_in (put t s b d) ≡ entries_with t s b
  put_entries = ap (λ (k : ℕ). take k (put t s b d).pool) (put-used ∙ sym more) ∙ as_written
    where
      as_written : take (length (entries_with t s b)) (put t s b d).pool ≡ entries_with t s b
      as_written = unfold put in take-append_seam (entries_with t s b) (drop (length (entries_with t s b)) t.pool)

  module _ (within_domain : T (aabb_in_domain b)) (few : covers (size_of t) b ≤ most_cells) (room : used_of t + covers (size_of t) b ≤ length t.pool) where
    -- ---- the lengths and the counts
    pool-length : length (put t s b d).pool ≡ length t.pool
    unfolding put
    pool-length = length-written (entries_with t s b) t.pool (omega (arith, more, room))

    put-sized : Sized (put t s b d)
    unfolding put
    put-sized =
        rw (length-set t.nums s (version_at t.nums s ∷ live ∷ d ∷ 0 ∷ []), pool-length)
        (record {
          some = h.sized.some;
          most = h.sized.most;
          of_reals = length-set t.reals s _ ∙ h.sized.of_reals;
          of_map = counted-length (taken t.map s) _ ∙ taken-length t.map s ∙ h.sized.of_map;
          pool-some = h.sized.pool-some;
          pool-most = h.sized.pool-most;
        })

    put-counted : Counted (put t s b d)
    put-counted = record { size = rw put-size h.counted.size; used-most = rw (put-used, pool-length) room }

    -- ---- its own box, and where it stands
    own_box : BoxHolds (put t s b d) s
    own_box = record { within_domain = rw put-corners within_domain; cells-most = rw (put-size, put-corners) few }

    own-item : item_for (size_of t) s b ≡ item_on (put t s b d) s
    own-item = rw (put-size, put-corners)

    own-stands : StandsOn (put t s b d) (entries_with t s b) s
    own-stands =
        rw (put-size, put-corners)
        (entered-stands (low_cell (size_of t) b) (high_cell (size_of t) b) (item_for (size_of t) s b) (entries_in t)
        (low_near b within_domain (size_of t)) (high-near b within_domain (size_of t)) (entries_sorted t h) (unnamed t h s not_live (eqb (covers (size_of t) b) 1)))

    kept : All (Kept t (put t s b d) s put_others) (entries_with t s b)
    kept =
        entered_all_lem (low_cell (size_of t) b) (high_cell (size_of t) b) (item_for (size_of t) s b) (entries_in t) _
        (all_map _ _ (λ r w. inl (record { named = w; other = λ q. not_live (ap (phase_at t.nums) (sym q) ∙ w.occupied) })) (entries_in t) (entries-named t h))
        (λ c. inr (put-live, own-item))

    pub put_keeps : Holds (put t s b d)
    put_keeps =
        changed-holds t (put t s b d) s put_others h inside (entries_with t s b) put-sized put-counted put-slots (λ e. own_box) put_entries
        (entered-sorted (low_cell (size_of t) b) (high_cell (size_of t) b) (item_for (size_of t) s b) (entries_in t) (entries_sorted t h))
        kept
        (λ i n st.
        entered_keeps (low_cell (size_of t) b) (high_cell (size_of t) b) (item_for (size_of t) s b) (entries_in t) (entries_sorted t h) (low_cell (size_of t) (aabb_on t i)) (high_cell (size_of t) (aabb_on t i)) (item_on t i)
        (λ q. n (item-same i s (eqb (covers (size_of t) (aabb_on t i)) 1) (eqb (covers (size_of t) b) 1) q)) st)
        (λ e. own-stands)
