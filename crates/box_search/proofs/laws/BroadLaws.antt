-- What `query_broad` finds in tables that hold a grid: a slot is found exactly when it is occupied and its box shares a cell with the
-- query box, and no slot is found twice. `query` finds those of them that the query box intersects: it is not said that these are all
-- boxes that it intersects. Assumes nothing.
use Rattle.basics.specs.Words.{ℕ, ◌/◌, ◌<◌, ◌≡◌, refl, sym, ap, ◌∙◌, subst, Bool, true, List, map, Memᴰ, Memᴰ-cast, Memᴰ-map, Memᴰ-of_map, T, eqb}
use Rattle.geometry.specs.declared.Aabb.{Aabb}
use Rattle.geometry.specs.Meaning.Domain.{aabb_in_domain}
use Rattle.geometry.specs.Meaning.Intersects.{intersects}
use Rattle.cells.specs.declared.Cell.{Cell}
use Rattle.cells.proofs.laws.Range.{in_range}
use Rattle.storage.specs.Meaning.Keyed.{All, filter}
use Rattle.storage.specs.Meaning.Entries.{row_key}
use Rattle.storage.proofs.laws.FilterLaws.{filter_all}
use Rattle.storage.specs.Inner.Window.{window_of}
use Rattle.storage.proofs.laws.WindowLaws.{range_fits, window_cell}
use Rattle.box_tables.specs.Meaning.Tables.{Tables, size_of, slots_of, entries_in, aabb_on, low_cell, high_cell, covers, item_on, slot_of}
use Rattle.box_tables.specs.Meaning.Holds.{Holds}
use Rattle.box_tables.proofs.laws.BoxLaws.{item-slot}
use Rattle.box_tables.proofs.laws.HoldsLaws.{named-slot}
use Rattle.box_search.specs.Meaning.Search.{range_entries, broad, narrow}
use Rattle.box_search.proofs.laws.Shared.{Met}
use Rattle.box_search.proofs.laws.FirstsLaws.{filter_member, member_filter, Once, firsts-once, firsts_of, of_firsts}
use Rattle.box_search.proofs.laws.StandsLaws.{member_all, cell-stands}
use Rattle.box_search.proofs.laws.WalkLaws.{entry_named, entry-cell, entry-fits, a_fits, b_fits, walk_window}

-- ---- `query` is a filter of `query_broad`, by its definition
module _ (t : Tables) (q : Aabb) where
  pub query-filter : narrow t q ≡ filter (λ s. intersects q (aabb_on t s)) (broad t q)
  unfolding narrow
  query-filter = refl

  -- no slot twice
  pub broad-once : Once (broad t q)
  unfolding broad
  broad-once = firsts-once (map slot_of (range_entries t q))

module _ (t : Tables) (h : Holds t) (q : Aabb) (d : T (aabb_in_domain q)) where
  abbrev a : Cell
  a = low_cell (size_of t) q

  abbrev b : Cell
  b = high_cell (size_of t) q

  abbrev window : List ℕ → Bool
  window r = window_of a b (row_key r)

  -- ---- an entry of the walk, and the slot that it names
  walk-met : (r : List ℕ) → Memᴰ r (range_entries t q) → Met t q (slot_of r)
  walk-met r m =
      let f = member_filter window r (entries_in t) (subst (Memᴰ r) (walk_window t h q d) m) in
      let n = entry_named t h r f.0 in
      let c = entry-cell t h r f.0 in
      let i : in_range a b c.0 ≡ true =
      sym (window_cell a b (a_fits t h q d) (b_fits t h q d) c.0 (entry-fits t h r f.0)) ∙ ap (window_of a b) c.2 ∙ f.1 in
      subst (Met t q) (sym (named-slot t r n)) (record { inside = n.inside; occupied = n.occupied; shared = record { cell = c.0; of_first = i; of_second = c.1 } })

  pub broad-met : (s : ℕ) → Memᴰ s (broad t q) → Met t q s
  unfolding broad
  broad-met s m =
      let r = Memᴰ-of_map slot_of (range_entries t q) (firsts_of s (map slot_of (range_entries t q)) m) in
      subst (Met t q) r.2 (walk-met r.0 r.1)

  -- ---- an occupied slot whose box shares a cell has an entry in the walk
  pub met-broad : (s : ℕ) → Met t q s → Memᴰ s (broad t q)
  unfolding broad
  met-broad s m =
      let c = m.shared.cell in
      let r = cell-stands (low_cell (size_of t) (aabb_on t s)) (high_cell (size_of t) (aabb_on t s)) (item_on t s) (entries_in t) (h.every s m.inside m.occupied) c m.shared.of_second in
      let w : window r.0 ≡ true =
      ap (window_of a b) r.3 ∙ window_cell a b (a_fits t h q d) (b_fits t h q d) c (range_fits a b (a_fits t h q d) (b_fits t h q d) c m.shared.of_first) ∙ m.shared.of_first in
      let k : Memᴰ r.0 (range_entries t q) = subst (Memᴰ r.0) (sym (walk_window t h q d)) (filter_member window r.0 (entries_in t) r.1 w) in
      let e : s ≡ slot_of r.0 = sym (ap (λ (i : ℕ). i / 2) r.2 ∙ item-slot s (eqb (covers (size_of t) (aabb_on t s)) 1)) in
      of_firsts s (map slot_of (range_entries t q)) (Memᴰ-cast e (Memᴰ-map slot_of k))

  -- ---- found exactly when
  pub broad_exactly : (s : ℕ) → (Memᴰ s (broad t q) → Met t q s) × (Met t q s → Memᴰ s (broad t q))
  broad_exactly s = (broad-met s, met-broad s)

  pub query_exactly : (s : ℕ) → (Memᴰ s (narrow t q) → Met t q s × (intersects q (aabb_on t s) ≡ true)) × (Met t q s → intersects q (aabb_on t s) ≡ true → Memᴰ s (narrow t q))
  unfolding narrow
  query_exactly s = (
    λ m. let f = member_filter (λ s. intersects q (aabb_on t s)) s (broad t q) m in (broad-met s f.0, f.1),
    λ m i. filter_member (λ s. intersects q (aabb_on t s)) s (broad t q) (met-broad s m) i,
  )

  -- ---- only slots of the tables are found
  pub broad_all : All (λ s. s < slots_of t) (broad t q)
  broad_all = member_all (λ s. s < slots_of t) (broad t q) (λ s m. (broad-met s m).inside)

  pub narrow_all : All (λ s. s < slots_of t) (narrow t q)
  unfolding narrow
  narrow_all = filter_all (λ s. intersects q (aabb_on t s)) (λ s. s < slots_of t) (broad t q) broad_all
