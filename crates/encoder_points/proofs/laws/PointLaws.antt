-- The points of a block, by the entries: some entry stands in it exactly if a recorded point lies in it, and one of those is in some circle exactly if a
-- circle finds a point there. Assumes nothing.
use Rattle.basics.specs.Words.{ℕ, zero, suc, ◌<◌, ◌≤◌, ◌≡◌, refl, sym, ap, ap₂, ◌∙◌, Bool, true, false, ◌&&◌, ◌||◌, List, [], ◌∷◌, length, take_all, eqb}
use Rattle.basics.specs.Words.{add-one, arith, eqb-true, eq-eqb}
use mathlib.Core.Bool.{or-false, and-false}
use lib.Ieee.{Float}
use Rattle.basics.specs.Meaning.Refusals.{pick}
use Rattle.basics.proofs.laws.Says.{both_true, and_true, says_same, says_via}
use Rattle.geometry.specs.Meaning.Circle.{in_circle}
use Rattle.cells.specs.Meaning.CellRule.{cell_at}
use Rattle.cells.specs.Meaning.Key.{key_of}
use Rattle.slots.specs.Meaning.Slot.{live, phase_at}
use Rattle.storage.specs.Meaning.Keyed.{All, filter}
use Rattle.storage.specs.Meaning.Entries.{Entry, entries_of}
use Rattle.storage.specs.Meaning.Packed.{second}
use Rattle.storage.proofs.laws.FilterLaws.{by_test, filter-both}
use Rattle.slot_walks.specs.Meaning.Live.{live_from}
use Rattle.slot_walks.proofs.laws.Live.{live_at}
use Rattle.slot_walks.proofs.laws.LiveLaws.{live_to, live-one, live-none}
use Rattle.point_records.specs.Inner.Listed.{spot_at}
use Rattle.point_tables.specs.Meaning.Tables.{Tables, size_of, used_of, slots_of, record_on, entries_in}
use Rattle.point_tables.specs.Meaning.Holds.{Holds}
use Rattle.point_tables.specs.Inner.Entry.{entry_at}
use Rattle.point_search.specs.Meaning.Searches.{position_of}
use Rattle.point_search.proofs.laws.PlacesLaws.{entries_next}
use Rattle.point_search.proofs.laws.FoundLaws.{stands, in_pool, in_spots}
use Rattle.point_search.proofs.laws.ScanLaws.{circle_scan}
use Rattle.point_query.specs.Meaning.Queries.{around_finds}
use Rattle.encoder_blocks.specs.Meaning.Blocks.{side, blocks, in_block}
use Rattle.encoder_blocks.specs.Meaning.Some.{some}
use Rattle.encoder_blocks.specs.Inner.Places.{column_at, line_at, block_of}
use Rattle.encoder_blocks.proofs.laws.PlaceLaws.{point_place}
use Rattle.encoder_points.specs.Meaning.Points.{centre_of, radius_of, found_by, circled, recorded}
use Rattle.encoder_points.specs.Inner.Marks.{in_some, stands_at, circled_at, some_below}
use Rattle.encoder_points.specs.Inner.Near.{Fine, Placed}
use Rattle.encoder_blocks.proofs.laws.HasLaws.{some-two, some_more}
use Rattle.encoder_points.proofs.laws.SomeLaws.{none_below, same-below, either_below, below_says}

-- ---- places that pass, as elements that do: of the entries, and of the live slots
some-entries : (pool : List (List ℕ)) (spots : List (List Float)) (test : Entry → Bool) (n : ℕ) → n ≤ length pool → n ≤ length spots
    → some_below (λ j. test (entry_at pool spots j)) n ≡ some (filter test (entries_of pool spots n))
unfolding some_below
some-entries pool spots test zero u v = refl
some-entries pool spots test (suc n) u v =
    ap (λ b. b || test (entry_at pool spots n)) (some-entries pool spots test n (omega arith) (omega arith))
    ∙ sym (some_more test (entries_of pool spots n) (entry_at pool spots n))
    ∙ ap (λ (es : List Entry). some (filter test es)) (sym (entries_next pool spots n (omega arith) (omega arith)))

module _ (nums : List (List ℕ)) (test : ℕ → Bool) where
  some_to : (i : ℕ) → i ≤ length nums → some_below (λ s. live_at nums s && test s) i ≡ some (filter test (live_to i nums))
  unfolding some_below
  some_to zero u = refl
  some_to (suc i) u =
      ap (λ b. b || (live_at nums i && test i)) (some_to i (omega arith))
      ∙ by_test (live_at nums i)
      (λ e. rw e (sym (some_more test (live_to i nums) i) ∙ ap (λ (m : List ℕ). some (filter test m)) (sym (live-one nums i u e))))
      (λ e. rw e (or-false (some (filter test (live_to i nums))) ∙ ap (λ (m : List ℕ). some (filter test m)) (sym (live-none nums i u e))))
      ∙ ap (λ (n : ℕ). some (filter test (live_to n nums))) (add-one i)

  some-live : some_below (λ s. live_at nums s && test s) (length nums) ≡ some (filter test (live_from 0 nums))
  some-live = some_to (length nums) (omega arith) ∙ ap (λ (m : List (List ℕ)). some (filter test (live_from 0 m))) (take_all (length nums) nums (omega arith))

-- a point in a circle, or in one of the others
either : (there here others : Bool) → (there && pick here true others) ≡ ((here && there) || (there && others))
either true true others = refl
either true false others = refl
either false true others = refl
either false false others = refl

-- ---- what the pass asks for, of tables that hold a grid
pub placed : (t : Tables) → Holds t → size_of t ≡ side → Placed t.pool t.spots (used_of t)
placed t h size =
    record {
      in_pool = in_pool t h;
      in_spots = in_spots t h;
      within_domain = λ j l. (stands t h j l).within_domain;
      key = λ j l. (stands t h j l).key ∙ ap (λ (m : ℕ). key_of (cell_at m (spot_at t.spots j))) size;
    }

module _ (t : Tables) (h : Holds t) (size : size_of t ≡ side) (k : ℕ) (l : k < blocks) where
  abbrev inside : Entry → Bool
  inside e = in_block (column_at k) (line_at k) (position_of e)

  abbrev entry_of : ℕ → Entry
  entry_of n = entry_at t.pool t.spots n

  -- an entry in use stands in the block of its position
  stood : (n : ℕ) → n < used_of t → stands_at t.pool k n ≡ inside (entry_of n)
  stood n u =
      let s = placed t h size in
      ap (λ (j : ℕ). eqb (block_of j) k) (s.key n u) ∙ point_place k l (position_of (entry_of n)) (s.within_domain n u)

  -- ---- recorded points
  abbrev held : ℕ → Bool
  held s = in_block (column_at k) (line_at k) (record_on t s).position

  -- it is the one that its slot has
  there : (n : ℕ) → n < used_of t → stands_at t.pool k n ≡ held (second t.pool n)
  there n u = stood n u ∙ ap (in_block (column_at k) (line_at k)) (stands t h n u).recorded

  -- an entry that stands there names a live slot, and every live slot has an entry
  abbrev live_there : ℕ → Bool
  live_there s = live_at t.nums s && held s

  named : (n : ℕ) × (n < used_of t) × (stands_at t.pool k n ≡ true) → (s : ℕ) × (s < slots_of t) × (live_there s ≡ true)
  named (n, u, e) =
      let s = stands t h n u in
      (second t.pool n, s.inside, and_true (eq-eqb (phase_at t.nums (second t.pool n)) live s.occupied) (sym (there n u) ∙ e))

  listed : (s : ℕ) × (s < slots_of t) × (live_there s ≡ true) → (n : ℕ) × (n < used_of t) × (stands_at t.pool k n ≡ true)
  listed (s, u, e) =
      let (a, b) = both_true (live_at t.nums s) (held s) e in
      let (n, v, q) = h.lists.every s u (eqb-true (phase_at t.nums s) live a) in
      (n, v, there n v ∙ ap held q ∙ b)

  pub recorded_is : some_below (stands_at t.pool k) (used_of t) ≡ recorded t (column_at k) (line_at k)
  unfolding recorded
  recorded_is =
      says_same (some_below (stands_at t.pool k) (used_of t)) (some_below live_there (slots_of t))
      (below_says (stands_at t.pool k) (used_of t)) (says_via listed named (below_says live_there (slots_of t)))
      ∙ some-live t.nums held

  -- ---- those that some circle finds
  pub circled_is : (cs : List (List Float)) → All Fine cs
      → some_below (circled_at t.pool t.spots cs k) (used_of t) ≡ circled t cs (column_at k) (line_at k)
  unfolding circled
  circled_is [] d = none_below (circled_at t.pool t.spots [] k) (used_of t) (λ n u. and-false (stands_at t.pool k n))
  circled_is (c ∷ cs) d =
      let finds : Entry → Bool = λ e. in_circle (position_of e) (centre_of c) (radius_of c) in
      let both : ℕ → Bool = λ n. finds (entry_of n) && inside (entry_of n) in
      same-below (circled_at t.pool t.spots (c ∷ cs) k) (λ n. both n || circled_at t.pool t.spots cs k n) (used_of t)
      (λ n u. rw (stood n u) (either (inside (entry_of n)) (finds (entry_of n)) (in_some cs (spot_at t.spots n))))
      ∙ sym (either_below both (circled_at t.pool t.spots cs k) (used_of t))
      ∙ ap₂ {C = Bool} ◌||◌
      (some-entries t.pool t.spots (λ e. finds e && inside e) (used_of t) (in_pool t h) (in_spots t h)
      ∙ ap some (sym (filter-both finds inside (entries_in t)))
      ∙ ap (λ (es : List Entry). some (filter inside es)) (sym (circle_scan t h (centre_of c) (radius_of c) d.0.0 d.0.1)))
      (circled_is cs d.1)
      ∙ sym (some-two inside (around_finds t (centre_of c) (radius_of c)) (found_by t cs))
